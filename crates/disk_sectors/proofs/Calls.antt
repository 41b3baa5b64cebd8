-- What a call of a device of sectors leaves, whatever it answers.
use Rattle.std.proofs.Common.{◌≡◌, ◌⊎◌, inl, inr, ℕ, ◌+◌, ◌≤◌, List, [], ◌∷◌, length, Result, Ok, Err, OnOk, sym, subst}
use Rattle.block_disk.specs.Device.{Moment, Device, SameOutside, SameMoments, TornWrite, written}
use Rattle.block_disk.proofs.Images.{torn_written}
use Rattle.block_disk.proofs.Ranges.{outside_refl}

-- a write of a sector that succeeds tears nothing more than one that fails may
pub torn_sector : (at n : ℕ) (bytes : List ℕ) (old new : Device) → length bytes ≡ n → at + n ≤ length old.now.bytes → new ≡ written at bytes old
    → SameMoments old new ⊎ TornWrite at n old new
torn_sector at n bytes old new long fits is =
    let within : at + length bytes ≤ length old.now.bytes = subst (λ (k : ℕ). at + k ≤ length old.now.bytes) (sym long) fits in
    let torn : TornWrite at (length bytes) old new = subst (λ (d : Device). TornWrite at (length bytes) old d) (sym is) (torn_written at bytes old within) in
    inr (subst (λ (k : ℕ). TornWrite at k old new) long torn)

pub failed_sector : (at n : ℕ) (bytes : List ℕ) (old new : Device) → length bytes ≡ n → SameMoments old new ⊎ TornWrite at (length bytes) old new
    → SameMoments old new ⊎ TornWrite at n old new
failed_sector at n bytes old new long failed = subst (λ (k : ℕ). SameMoments old new ⊎ TornWrite at k old new) long failed

-- it changes its sector alone
pub same_but : (at n : ℕ) (old new : Device) → SameMoments old new ⊎ TornWrite at n old new → SameOutside (record { start = at; len = n } ∷ []) old.now.bytes new.now.bytes
same_but at n old new (inl same) =
    subst (λ (m : Moment). SameOutside (record { start = at; len = n } ∷ []) old.now.bytes m.bytes) (sym same.now) (outside_refl (record { start = at; len = n } ∷ []) old.now.bytes)
same_but at n old new (inr torn) = torn.bytes

-- two facts of an answer
pub on_ok_two : {T E : Type 0} (r : Result T E) (P Q R : Type 0) → (P → Q → R) → OnOk r P → OnOk r Q → OnOk r R
on_ok_two (Ok x) P Q R f p q = f p q
on_ok_two (Err e) P Q R f p q = tt
