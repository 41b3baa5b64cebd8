-- A list that a loop makes, a value longer.
use Rattle.std.proofs.Common.{◌≡◌, ℕ, ◌+◌, ◌<◌, ◌++◌, ◌∷◌, [], List, length, get_or, inl, inr, sym, ap, ◌∙◌, arith}
use Rattle.std.proofs.lemmas.Bool.{cases_lt}
use Rattle.std.proofs.lemmas.List.{get_or_push, get_or_append_left, length-append}

-- its length
pub length-more : (xs ys : List ℕ) (v k : ℕ) → length xs ≡ k → ys ≡ xs ++ v ∷ [] → length ys ≡ k + 1
length-more xs ys v k long is = ap length is ∙ length-append xs (v ∷ []) ∙ ap (λ n. n + 1) long

-- its values are those of a function, if the new one is
pub each-more : (xs ys : List ℕ) (v k : ℕ) (F : ℕ → ℕ) → length xs ≡ k → ys ≡ xs ++ v ∷ [] → ((i : ℕ) → i < k → get_or xs i 0 ≡ F i) → v ≡ F k
    → (i : ℕ) → i < k + 1 → get_or ys i 0 ≡ F i
each-more xs ys v k F long is each new i in' = ap (λ zs. get_or zs i 0) is ∙ elim (cases_lt i k) [
  | inl below ↦ get_or_append_left xs (v ∷ []) 0 i (omega (arith, long, below)) ∙ each i below
  | inr past ↦ let same : i ≡ k = omega (arith, past, in') in get_or_push xs v 0 i (long ∙ sym same) ∙ new ∙ ap F (sym same)
]
