-- What a look into a list gives.
use Rattle.std.proofs.Common.{ℕ, ◌≡◌, nat_lt, List, length, slice_get, Option, Some, None, IfSome, Bor, inl, inr, refl, sym, get_or}
use Rattle.std.proofs.lemmas.Bool.{cases_lt, lt-ltb, le-ltb}
use Rattle.std.proofs.lemmas.Option.{slice_get_past, slice_get_read}
use Rattle.std.specs.Option.{is_some, option_copied}

-- the value of the reference that it gives, or none past the end
pub copied_is : {T : Type 0} (xs : List T) (i : ℕ) (o : Option (Bor T)) → is_some o ≡ nat_lt i (length xs) → IfSome o (λ x. x.now ≡ get_or xs i x.now) → option_copied o ≡ slice_get xs i
copied_is xs i None test read = elim (cases_lt i (length xs)) [
  | inl low ↦ absurd (let no = lt-ltb i (length xs) low in cc)
  | inr high ↦ sym (slice_get_past xs i high)
]
copied_is xs i (Some x) test read = elim (cases_lt i (length xs)) [
  | inl low ↦ sym (slice_get_read xs (length xs) i x.now refl low read)
  | inr high ↦ absurd (let no = le-ltb i (length xs) high in cc)
]
