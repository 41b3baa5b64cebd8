-- The members of a set of lanes, as a list.
use Rattle.std.proofs.Common.{ℕ, zero, suc, ◌≡◌, ◌<◌, ◌⊎◌, if◌then◌else◌, Bool, true, false, List, [], ◌∷◌, ◌↔◌, Contains, refl, sym, ap, ◌∙◌, subst, inl, inr, ⊎_elim, arith}
use Rattle.std.specs.FinSet as set
use Rattle.std.specs.Ordering.{nat_cmp}
use mathlib.Core.Logic.{dite}
use native.Mathlib.Decide.{ℕ_discrete}
use Rattle.heap_model.specs.declared.ids.Lane.{Lane}
use Rattle.lock_word.specs.WaitMask.{IsLaneSet}
use Rattle.lock_word.specs.Members.{members_below, members}

split : (x l : Lane) (xs : List Lane) → Contains (x ∷ xs) l → (x ≡ l) ⊎ Contains xs l
split x l xs (zero, low, is) = inl is
split x l xs (suc i, low, is) = inr (i, omega arith, is)

next : (x l : Lane) (xs : List Lane) → Contains xs l → Contains (x ∷ xs) l
next x l xs h = let low = h.1 in (suc h.0, omega arith, h.2)

by_bool : (b : Bool) (P : Bool → Type 0) → (b ≡ true → P true) → (b ≡ false → P false) → P b
by_bool true P yes_case no_case = yes_case refl
by_bool false P yes_case no_case = no_case refl

listed : (s : set.FinSet nat_cmp) (n : ℕ) (l : Lane) → Contains (members_below s n) l → set.contains s l.0 ≡ true
listed s zero l h = let low = h.1 in absurd (omega arith)
listed s (suc n) l h = by_bool (set.contains s n) (λ b. Contains (if b then record { 0 = n } ∷ members_below s n else members_below s n) l → set.contains s l.0 ≡ true)
    (λ is h. ⊎_elim (λ (e : ◌≡◌ {A = Lane} (record { 0 = n }) l). subst (λ (x : Lane). set.contains s x.0 ≡ true) e is) (λ (h : Contains (members_below s n) l). listed s n l h) (split (record { 0 = n }) l (members_below s n) h))
    (λ _ h. listed s n l h) h

lists : (s : set.FinSet nat_cmp) (n : ℕ) (l : Lane) → l.0 < n → set.contains s l.0 ≡ true → Contains (members_below s n) l
lists s zero l low is = absurd (omega arith)
lists s (suc n) l low is = by_bool (set.contains s n) (λ b. Contains (if b then record { 0 = n } ∷ members_below s n else members_below s n) l)
    (λ _. dite (ℕ_discrete n l.0) (λ e. (0, omega arith, ap (λ (z : ℕ). record { 0 = z }) e)) (λ ne. next (record { 0 = n }) l (members_below s n) (lists s n l (omega arith) is)))
    (λ out. dite (ℕ_discrete n l.0) (λ e. absurd (clash (sym out ∙ ap (set.contains s) e ∙ is))) (λ ne. lists s n l (omega arith) is))
  where
    clash : false ≡ true → ⊥
    clash e = absurd cc

pub members_law : (s : set.FinSet nat_cmp) → IsLaneSet s → (l : Lane) → Contains (members s) l ↔ (set.contains s l.0 ≡ true)
unfolding members
members_law s small l = ((λ h. listed s 32 l h), λ is. lists s 32 l (small l.0 is) is)
