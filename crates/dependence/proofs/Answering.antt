-- A cut that was answered stays whole and closed, and what is found beyond it.
use Rattle.std.proofs.Common.{ℕ, zero, suc, ◌≡◌, ◌+◌, ◌<◌, ◌≤◌, ◌&&◌, max, cond, Bool, true, false, not, List, [], ◌∷◌, ◌++◌, length, get_or, reverse, Contains, refl, sym, ap, ◌∙◌, subst, inl, inr, arith}
use Rattle.std.specs.List.{filter}
use Rattle.std.proofs.lemmas.Bool.{and_parts, leb-true, leb-false, le-leb, lt-leb, cases_Bool, cases_lt, not-true}
use Rattle.heap_model.specs.Log.{lane}
use Rattle.heap_model.specs.Sections.{Action, Takes, Frees, Stores, undo_action, ended}
use Rattle.law_cuts.specs.Plain.{takes_after, counts, is_blocked_by, IsClosedOver, IsGreatest}
use Rattle.dependence.specs.declared.step.Step.{Step}
use Rattle.dependence.specs.Trace.{growth}
use Rattle.dependence.specs.Steps.{reading, log_of, HasSections}
use Rattle.dependence.specs.Links.{acts_in, act_at}
use Rattle.dependence.specs.Kept.{IsInOrder}
use Rattle.dependence.specs.Search.{IsAbove, IsAnswered, IsFound}
use Rattle.dependence.proofs.Places.{at_old, at_new, length_snoc}
use Rattle.dependence.proofs.Pairs.{Follows, followed, AreInOrder}
use Rattle.dependence.proofs.InOrder.{in_order}
use Rattle.dependence.proofs.Falling.{act_is}
use Rattle.dependence.proofs.Steady.{above_base, step_past}
use Rattle.dependence.proofs.Sums.{growth_none, growth_le, growth_less, twice_each}

-- what is freed next was taken by none
late_free : (acts : List Action) (j : ℕ) (a : Action) → AreInOrder acts a → takes_after (act_at acts j) a ≡ true → ⊥
late_free acts j (Takes o n) order h = let f : Follows (act_at acts j) (Takes o n) = followed _ _ h in let no : Takes o n ≡ Frees f.object f.number = f.frees in absurd cc
late_free acts j Stores order h = let f : Follows (act_at acts j) Stores = followed _ _ h in let no : Stores ≡ Frees f.object f.number = f.frees in absurd cc
late_free acts j (Frees o n) order h =
    let f : Follows (act_at acts j) (Frees o n) = followed _ _ h in
    let same : Frees o n ≡ Frees f.object f.number = f.frees in
    let objects : f.object ≡ o = cc in
    let numbers : f.number ≡ n = cc in
    let taken : act_at acts j ≡ Takes o (n + 1) = f.takes ∙ ap (λ (p : ℕ). Takes p (f.number + 1)) objects ∙ ap (λ (m : ℕ). Takes o (m + 1)) numbers in
    absurd (omega (arith, order.taken j (n + 1) taken))

-- one more step, of a section that the cut doesn't have
pub closed_push : (steps : List Step) (s : Step) (cut : ℕ → ℕ) → IsInOrder (log_of (reverse steps)) (undo_action s.entry) → cut s.lane.0 < s.section → IsClosedOver reading steps cut → IsClosedOver reading (steps ++ s ∷ []) cut
closed_push steps s cut order out closed x y here there = elim (cases_Bool (is_blocked_by reading cut x y)) [
  | inr clear ↦ clear
  | inl blocked ↦
      let parts : (counts reading cut x ≡ true) × ((takes_after (undo_action x.entry) (undo_action y.entry) && not (counts reading cut y)) ≡ true) = and_parts _ _ blocked in
      let takes : takes_after (undo_action x.entry) (undo_action y.entry) ≡ true = (and_parts _ _ parts.1).0 in
      let in_cut : x.section ≤ cut x.lane.0 = leb-true _ _ parts.0 in
      elim (cases_lt here.0 (length steps)) [
        | inr late ↦
            let is : s ≡ x = sym (at_new steps s x here.0 (omega (arith, here.1, length_snoc steps s))) ∙ here.2 in
            let past : cut x.lane.0 < x.section = subst (λ (t : Step). cut t.lane.0 < t.section) is out in
            absurd (omega arith)
        | inl early ↦ elim (cases_lt there.0 (length steps)) [
          | inl before ↦ closed x y (here.0, early, sym (at_old steps s x here.0 early) ∙ here.2) (there.0, before, sym (at_old steps s y there.0 before) ∙ there.2)
          | inr late ↦
              let is : y ≡ s = sym there.2 ∙ at_new steps s y there.0 (omega (arith, there.1, length_snoc steps s)) in
              let was : get_or steps here.0 x ≡ x = sym (at_old steps s x here.0 early) ∙ here.2 in
              let act : act_at (acts_in steps) here.0 ≡ undo_action x.entry = act_is steps here.0 x early was in
              absurd (late_free (acts_in steps) here.0 (undo_action s.entry) (in_order steps (undo_action s.entry) order)
              (ap (λ a. takes_after a (undo_action s.entry)) act ∙ ap (λ (t : Step). takes_after (undo_action x.entry) (undo_action t.entry)) (sym is) ∙ takes))
        ]
      ]
]

-- what is left was there before
in_tail : (x : Step) (xs : List Step) (s : Step) → Contains xs s → Contains (x ∷ xs) s
in_tail x xs s (k, lt, e) = (suc k, omega arith, e)

in_more : (x : Step) (xs ys : List Step) (s : Step) → (Contains ys s → Contains xs s) → Contains (x ∷ ys) s → Contains (x ∷ xs) s
in_more x xs ys s rest (zero, lt, e) = (zero, omega arith, e)
in_more x xs ys s rest (suc k, lt, e) = in_tail x xs s (rest (k, omega arith, e))

in_filter : (p : Step → Bool) (xs : List Step) (s : Step) → Contains (filter p xs) s → Contains xs s
in_filter p [] s here = absurd (let no : here.0 < 0 = here.1 in omega arith)
in_filter p (x ∷ xs) s here = elim (cases_Bool (p x)) [
  | inl kept ↦ in_more x xs (filter p xs) s (in_filter p xs s) (subst (λ (b : Bool). Contains (cond b (x ∷ filter p xs) (filter p xs)) s) kept here)
  | inr dropped ↦ in_tail x xs s (in_filter p xs s (subst (λ (b : Bool). Contains (cond b (x ∷ filter p xs) (filter p xs)) s) dropped here))
]

-- the cut with what is forgotten, over the steps that are left
pub closed_left : (steps left : List Step) (p : Step → Bool) (next old new : ℕ → ℕ) → left ≡ filter p steps → HasSections next (reverse left) → ((l : ℕ) → old l ≤ new l) → ((l : ℕ) → new l ≤ max (old l) (next l)) →
    IsClosedOver reading steps old → IsClosedOver reading left new
closed_left steps left p next old new filtered numbered up within closed x y here there = elim (cases_Bool (is_blocked_by reading new x y)) [
  | inr clear ↦ clear
  | inl blocked ↦
      let parts : (counts reading new x ≡ true) × ((takes_after (undo_action x.entry) (undo_action y.entry) && not (counts reading new y)) ≡ true) = and_parts _ _ blocked in
      let more : (takes_after (undo_action x.entry) (undo_action y.entry) ≡ true) × (not (counts reading new y) ≡ true) = and_parts _ _ parts.1 in
      let in_new : x.section ≤ new x.lane.0 = leb-true _ _ parts.0 in
      let out_new : new y.lane.0 < y.section = leb-false _ _ (not-true _ more.1) in
      let in_old : counts reading old x ≡ true = le-leb _ _ (omega (arith, step_past next left numbered x here, within x.lane.0)) in
      let out_old : counts reading old y ≡ false = lt-leb _ _ (omega (arith, up y.lane.0)) in
      let was : is_blocked_by reading old x y ≡ false = closed x y (in_filter p steps x (subst (λ (xs : List Step). Contains xs x) filtered here)) (in_filter p steps y (subst (λ (xs : List Step). Contains xs y) filtered there)) in
      let now : (counts reading old x && (takes_after (undo_action x.entry) (undo_action y.entry) && not (counts reading old y))) ≡ true = rw (in_old, more.0, out_old) refl in
      absurd cc
]

-- the greatest cut may be answered
pub answered_greatest : (base : ℕ → ℕ) (steps : List Step) → HasSections base (reverse steps) → (whole cut : ℕ → ℕ) → ((l : ℕ) → whole l ≡ ended (lane l (log_of (reverse steps))) + base l) → IsGreatest reading steps whole cut → IsAnswered steps base whole cut
answered_greatest base steps numbered whole cut is_whole greatest = record {
  past = above_base base steps numbered whole cut is_whole greatest;
  below = greatest.below;
  closed = greatest.closed;
}

-- once it is answered it is at hand
pub found_again : (lanes : ℕ) (steps : List Step) (whole cut : ℕ → ℕ) → IsGreatest reading steps whole cut → IsFound lanes steps whole cut cut 0
found_again lanes steps whole cut greatest = record { greatest = greatest; least = omega (arith, growth_none lanes cut); most = omega arith }

-- the greatest cut of the candidates is the stable one
pub greatest_of : (steps : List Step) (whole candidates cut : ℕ → ℕ) → IsAbove steps whole candidates → IsAbove steps candidates cut → IsClosedOver reading steps cut → IsGreatest reading steps whole cut
greatest_of steps whole candidates cut few above closed = record {
  below = λ l. omega (arith, above.below l, few.below l);
  closed = closed;
  greatest = λ other le is_closed. above.greatest other (few.greatest other le is_closed) is_closed;
}

-- each candidate is taken up once, and once more if it is out
pub found_twice : (lanes : ℕ) (steps : List Step) (whole answered candidates cut : ℕ → ℕ) (looks : ℕ) → IsGreatest reading steps whole cut → ((l : ℕ) → candidates l ≤ whole l) → ((l : ℕ) → cut l ≤ candidates l) → ((l : ℕ) → answered l ≤ cut l) →
    looks ≡ growth lanes candidates answered + growth lanes candidates cut → IsFound lanes steps whole answered cut looks
found_twice lanes steps whole answered candidates cut looks greatest few below above many =
    let all : growth lanes candidates answered ≤ growth lanes whole answered = growth_le lanes candidates whole answered few in
    let out : growth lanes candidates cut ≤ growth lanes candidates answered = growth_less lanes candidates answered cut above in
    record {
      greatest = greatest;
      least = omega (arith, growth_le lanes cut candidates answered below);
      most = omega (arith, twice_each (growth lanes whole answered));
    }
