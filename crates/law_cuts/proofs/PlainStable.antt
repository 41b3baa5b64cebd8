-- The greatest cut under which no step of a log is blocked is its stable cut.
use Rattle.std.proofs.Common.{ℕ, zero, suc, ◌≡◌, ◌+◌, ◌<◌, ◌==◌, ◌&&◌, true, false, not, List, [], ◌∷◌, length, get_or, Contains, refl, sym, ap, ◌∙◌, subst, inl, inr, arith}
use Rattle.std.proofs.lemmas.Bool.{and_parts, leb-true, leb-false, le-leb, cases_Bool, eqb-true, eq-eqb, not-true}
use Rattle.heap_model.specs.Log.{lane}
use Rattle.heap_model.specs.Sections.{Action, Takes, Frees, Stores, ended, Section, Did, Earlier, Took}
use Rattle.heap_model.specs.Cuts.{Counts, IsClosed, IsStable}
use Rattle.law_cuts.specs.Plain.{Reading, takes_after, counts, is_blocked_by, IsClosedOver, IsGreatest, IsNumbered}
use Rattle.law_cuts.proofs.Chain.{same_section}

follows : (a b : Action) (o n : ℕ) → a ≡ Takes o (n + 1) → b ≡ Frees o n → takes_after a b ≡ true
follows a b o n h i = ap (λ x. takes_after x b) h ∙ ap (takes_after (Takes o (n + 1))) i ∙ rw (eq-eqb o o refl, eq-eqb (n + 1) (n + 1) refl) refl

record Follows (a b : Action) : Type 0 where
  object : ℕ
  number : ℕ
  takes : a ≡ Takes object (number + 1)
  frees : b ≡ Frees object number

followed : (a b : Action) → takes_after a b ≡ true → Follows a b
followed (Takes o n) (Frees p m) h =
    let parts : ((o == p) ≡ true) × ((n == m + 1) ≡ true) = and_parts _ _ h in
    let objects : o ≡ p = eqb-true _ _ parts.0 in
    let numbers : n ≡ m + 1 = eqb-true _ _ parts.1 in
    record { object = p; number = m; takes = ap (λ x. Takes x n) objects ∙ ap (Takes p) numbers; frees = refl }
followed (Takes o n) (Takes p m) h = absurd cc
followed (Takes o n) Stores h = absurd cc
followed (Frees o n) b h = absurd cc
followed Stores b h = absurd cc

module _ {A : Type 0} (r : Reading A) where
  record Finds (steps : List A) (a : Section) (act : Action) : Type 0 where
    step : A
    here : Contains steps step
    at : r.section step ≡ a
    does : r.act step ≡ act

  -- what a section did is a step
  finds : (steps : List A) (log : List (ℕ × Action)) (a : Section) (act : Action) → IsNumbered r steps log → Did log a act → Finds steps a act
  finds steps [] a act numbered h = elim h [ ]
  finds [] (x ∷ older) a act numbered h = elim numbered [ ]
  finds (s ∷ steps) (x ∷ older) a act numbered (inl h) = record { step = s; here = (0, omega arith, refl); at = numbered.0 ∙ sym h.0; does = numbered.1 ∙ sym h.1 }
  finds (s ∷ steps) (x ∷ older) a act numbered (inr h) =
      let f : Finds steps a act = finds steps older a act numbered.2 h in
      record { step = f.step; here = (suc f.here.0, omega (arith, f.here.1), f.here.2); at = f.at; does = f.does }

  -- each step is what its section did
  did_step : (steps : List A) (log : List (ℕ × Action)) (s : A) (k : ℕ) → IsNumbered r steps log → k < length steps → get_or steps k s ≡ s → Did log (r.section s) (r.act s)
  did_step [] log s k numbered lt e = absurd (omega arith)
  did_step (t ∷ steps) [] s k numbered lt e = elim numbered [ ]
  did_step (t ∷ steps) (x ∷ older) s zero numbered lt e = inl (ap r.section (sym e) ∙ numbered.0, ap r.act (sym e) ∙ numbered.1)
  did_step (t ∷ steps) (x ∷ older) s (suc k) numbered lt e = inr (did_step steps older s k numbered.2 (omega arith) e)

  closed_by_steps : (log : List (ℕ × Action)) (steps : List A) (cut : ℕ → ℕ) → IsNumbered r steps log → IsClosedOver r steps cut → IsClosed log cut
  closed_by_steps log steps cut numbered closed a b counted (Earlier e lt) = let same : cut a.lane ≡ cut b.lane = ap cut e in omega arith
  closed_by_steps log steps cut numbered closed a b counted (Took o n took freed differ) =
      let f : Finds steps a (Takes o (n + 1)) = finds steps log a _ numbered took in
      let g : Finds steps b (Frees o n) = finds steps log b _ numbered freed in
      let counted_step : counts r cut f.step ≡ true = le-leb _ _ (subst (λ x. Counts cut x) (sym f.at) counted) in
      let after : takes_after (r.act f.step) (r.act g.step) ≡ true = follows (r.act f.step) (r.act g.step) o n f.does g.does in
      elim (cases_Bool (counts r cut g.step)) [
        | inl counted_too ↦ subst (λ x. Counts cut x) g.at (leb-true _ _ counted_too)
        | inr out ↦
            let free : (counts r cut f.step && (takes_after (r.act f.step) (r.act g.step) && not (counts r cut g.step))) ≡ false = closed f.step g.step f.here g.here in
            let blocked : (counts r cut f.step && (takes_after (r.act f.step) (r.act g.step) && not (counts r cut g.step))) ≡ true = rw (counted_step, after, out) refl in
            absurd cc
      ]

  steps_by_closed : (log : List (ℕ × Action)) (steps : List A) (cut : ℕ → ℕ) → IsNumbered r steps log → IsClosed log cut → IsClosedOver r steps cut
  steps_by_closed log steps cut numbered closed s t here there = elim (cases_Bool (is_blocked_by r cut s t)) [
    | inl blocked ↦
        let parts : (counts r cut s ≡ true) × ((takes_after (r.act s) (r.act t) && not (counts r cut t)) ≡ true) = and_parts _ _ blocked in
        let parts_too : (takes_after (r.act s) (r.act t) ≡ true) × (not (counts r cut t) ≡ true) = and_parts _ _ parts.1 in
        let f : Follows (r.act s) (r.act t) = followed (r.act s) (r.act t) parts_too.0 in
        let counted : Counts cut (r.section s) = leb-true _ _ parts.0 in
        let out : cut (r.section t).lane < (r.section t).number = leb-false _ _ (not-true _ parts_too.1) in
        let took : Did log (r.section s) (Takes f.object (f.number + 1)) = subst (λ x. Did log (r.section s) x) f.takes (did_step steps log s here.0 numbered here.1 here.2) in
        let freed : Did log (r.section t) (Frees f.object f.number) = subst (λ x. Did log (r.section t) x) f.frees (did_step steps log t there.0 numbered there.1 there.2) in
        let low : Counts cut (r.section t) = elim (same_section (r.section s) (r.section t)) [
          | inl e ↦ subst (λ x. Counts cut x) e counted
          | inr differ ↦ closed (r.section s) (r.section t) counted (Took f.object f.number took freed differ)
        ] in
        absurd (omega arith)
    | inr clear ↦ clear
  ]

  pub plain_stable : (log : List (ℕ × Action)) (steps : List A) (cut : ℕ → ℕ) → IsNumbered r steps log → IsGreatest r steps (λ l. ended (lane l log)) cut → IsStable log cut
  plain_stable log steps cut numbered greatest = record {
    whole = greatest.below;
    closed = closed_by_steps log steps cut numbered greatest.closed;
    greatest = λ other whole closed. greatest.greatest other whole (steps_by_closed log steps other numbered closed);
  }
