-- What a lane holds after a take, and after a release of another object.
use Rattle.std.proofs.Common.{ℕ, zero, suc, ◌≡◌, ◌<◌, if◌then◌else◌, Bool, List, [], ◌∷◌, Contains, length, get_or, sym, ◌∙◌, subst, inl, inr, arith}
use Rattle.std.proofs.lemmas.Bool.Decides.{eqb_tells}
use Rattle.heap_model.specs.Sections.{without}

pub first_held : (o p : ℕ) (held : List ℕ) → p ≡ o → Contains (p ∷ held) o
first_held o p held e = (0, omega arith, e)

pub later_held : (o p : ℕ) (held : List ℕ) → Contains held o → Contains (p ∷ held) o
later_held o p held here = (suc here.0, omega (arith, here.1), here.2)

pub still_held : (o p : ℕ) (held : List ℕ) → (p ≡ o → ⊥) → Contains held o → Contains (without p held) o
still_held o p [] ne here = absurd (let lt : here.0 < length {A = ℕ} [] = here.1 in omega arith)
still_held o p (q ∷ held) ne here = elim (eqb_tells q p) [
  | inl e ↦ subst (λ (b : Bool). Contains (if b then held else q ∷ without p held) o) (sym e.0) (tail here.0 (λ same. ne (sym e.1 ∙ same)) here.1 here.2)
  | inr e ↦ subst (λ (b : Bool). Contains (if b then held else q ∷ without p held) o) (sym e.0) (kept here.0 here.1 here.2 (λ rest. still_held o p held ne rest))
]
  where
    tail : (k : ℕ) → (q ≡ o → ⊥) → k < length (q ∷ held) → get_or (q ∷ held) k o ≡ o → Contains held o
    tail zero differ lt is = absurd (differ is)
    tail (suc k) differ lt is = (k, omega arith, is)

    kept : (k : ℕ) → k < length (q ∷ held) → get_or (q ∷ held) k o ≡ o → (Contains held o → Contains (without p held) o) → Contains (q ∷ without p held) o
    kept zero lt is rest = first_held o q (without p held) is
    kept (suc k) lt is rest = later_held o q (without p held) (rest (k, omega arith, is))
