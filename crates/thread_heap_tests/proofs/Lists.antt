-- What holds of each of one or two elements holds of all of the list that has just these.
use Rattle.std.proofs.Common.{◌≡◌, refl, List, [], ◌∷◌, All, subst, sym}
use Rattle.std.proofs.lemmas.List.Elements.{All-nil, All-cons}

module _ {X : Type 0} (P : X → Type 0) where
  pub all_of_one : (x : X) (xs : List X) → xs ≡ x ∷ [] → P x → All P xs
  all_of_one x xs e p = subst (λ (ys : List X). All P ys) (sym e) (All-cons P x [] p (All-nil P))

  pub all_of_two : (x y : X) (xs : List X) → xs ≡ x ∷ y ∷ [] → P x → P y → All P xs
  all_of_two x y xs e p q = subst (λ (ys : List X). All P ys) (sym e) (All-cons P x (y ∷ []) p (all_of_one y (y ∷ []) refl q))
