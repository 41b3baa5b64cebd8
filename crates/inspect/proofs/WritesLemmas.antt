-- Texts that are written one after the other: what the last answer says is said of the whole.
use Rattle.std.proofs.Common.{Result, Ok, Err, ℕ, Option, List, [], ◌∷◌, ◌++◌, sym, subst, append-nil}
use Rattle.std.specs.List.{concat}
use Rattle.std.specs.Io.KnownBytes.{Appends}
use Rattle.std.proofs.KnownBytes.{Appends-trans}
use Rattle.inspect.specs.Written.{Writes}
use Rattle.inspect.proofs.PartLemmas.{part_second}

-- the first text is written, and of the second what the answer says: so it is of both
pub writes_then : {W T E : Type 0} (contents : W → Option (List ℕ)) (a b c : W) (s t : List ℕ) (r : Result T E)
    → Appends (contents a) (contents b) s → Writes contents b c t r → Writes contents a c (s ++ t) r
writes_then contents a b c s t (Ok x) p w = record { ok = Appends-trans (contents a) (contents b) (contents c) s t p w.ok; part = tt }
writes_then contents a b c s t (Err e) p w = record { ok = tt; part = part_second (contents a) (contents b) (contents c) s t p w.part }

-- the same of the first of several texts
pub writes_later : {W T E : Type 0} (contents : W → Option (List ℕ)) (a b c : W) (s : List ℕ) (rest : List (List ℕ)) (r : Result T E)
    → Appends (contents a) (contents b) s → Writes contents b c (concat rest) r → Writes contents a c (concat (s ∷ rest)) r
writes_later contents a b c s rest r p w = writes_then contents a b c s (concat rest) r p w

pub writes_last : {W T E : Type 0} (contents : W → Option (List ℕ)) (a b : W) (s : List ℕ) (r : Result T E)
    → Writes contents a b s r → Writes contents a b (concat (s ∷ [])) r
writes_last contents a b s r w = subst (λ (t : List ℕ). Writes contents a b t r) (sym (append-nil s)) w
