-- The text of one item, or of none, by a test.
use Rattle.std.proofs.Common.{ℕ, ◌≡◌, ◌∙◌, Bool, true, false, if◌then◌else◌, List, [], ◌∷◌, ap, append-nil}
use Rattle.std.specs.List.{flat_map}

module _ {X : Type 0} (f : X → List ℕ) (b : Bool) where
  pub one_then : (x : X) → b ≡ true → flat_map f (if b then x ∷ [] else []) ≡ f x
  one_then x is = ap (λ (c : Bool). flat_map f (if c then x ∷ [] else [])) is ∙ append-nil (f x)

  pub one_else : (x : X) → b ≡ false → flat_map f (if b then [] else x ∷ []) ≡ f x
  one_else x is = ap (λ (c : Bool). flat_map f (if c then [] else x ∷ [])) is ∙ append-nil (f x)

  pub none_then : (xs : List X) → b ≡ true → flat_map f (if b then [] else xs) ≡ []
  none_then xs is = ap (λ (c : Bool). flat_map f (if c then [] else xs)) is

  pub none_else : (xs : List X) → b ≡ false → flat_map f (if b then xs else []) ≡ []
  none_else xs is = ap (λ (c : Bool). flat_map f (if c then xs else [])) is
