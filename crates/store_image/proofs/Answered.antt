-- What is known where a call has answered Ok.
use Rattle.std.proofs.Common.{Result, Ok, Err, OnOk}

pub on_ok_two : {T E P Q R : Type 0} (r : Result T E) → (P → Q → R) → OnOk r P → OnOk r Q → OnOk r R
on_ok_two (Ok x) f p q = f p q
on_ok_two (Err e) f p q = tt

pub on_ok_three : {T E P Q R S : Type 0} (r : Result T E) → (P → Q → R → S) → OnOk r P → OnOk r Q → OnOk r R → OnOk r S
on_ok_three (Ok x) f p q u = f p q u
on_ok_three (Err e) f p q u = tt

pub on_ok_four : {T E P Q R S U : Type 0} (r : Result T E) → (P → Q → R → S → U) → OnOk r P → OnOk r Q → OnOk r R → OnOk r S → OnOk r U
on_ok_four (Ok x) f p q u v = f p q u v
on_ok_four (Err e) f p q u v = tt
