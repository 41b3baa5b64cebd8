-- The worked round.
use Rattle.std.proofs.Common.{ℕ, ◌≡◌, ◌+◌, ◌≤◌, [], ◌∷◌, refl, sym, ap, subst, inl, inr, arith}
use Rattle.std.proofs.lemmas.Bool.{cases_eq}
use Rattle.heap_model.specs.Cuts.{IsClosed, IsWhole}
use Rattle.heap_model.specs.Log.{IsLegal, lane}
use Rattle.heap_model.specs.Sections.{Takes, actions, Did, Earlier, Section, Took, ended}
use Rattle.store_helper_sections.specs.Image.{IsRoundOf}
use Rattle.store_helper_sections.proofs.Padding.{if_apart}
use Rattle.law_rounds.specs.Worked.{WorkedRound, worked_cut, worked_layout, worked_log, worked_section, worked_setting}

whole : IsWhole (actions worked_log) worked_cut
whole l = elim (cases_eq l 0) [
  | inl e ↦ subst (λ (k : ℕ). worked_cut k ≤ ended (lane k (actions worked_log))) (sym e) (omega arith)
  | inr ne ↦ let none : worked_cut l ≡ 0 = if_apart {A = ℕ} l 0 1 0 ne in omega (arith, none)
]

-- what a counted section took nobody freed
none_taken : (a : Section) (o n : ℕ) → Did (actions worked_log) a (Takes o (n + 1)) → a.number ≤ worked_cut a.lane → ⊥
none_taken a o n (inl h) counted = absurd cc
none_taken a o n (inr (inl h)) counted =
    let at : a.lane ≡ 1 = ap (λ (x : Section). x.lane) h.0 in
    let one : a.number ≡ 1 = ap (λ (x : Section). x.number) h.0 in
    let none : worked_cut a.lane ≡ 0 = ap worked_cut at in
    omega (arith, counted, one, none)
none_taken a o n (inr (inr (inl h))) counted = absurd cc
none_taken a o n (inr (inr (inr (inl h)))) counted = absurd cc
none_taken a o n (inr (inr (inr (inr (inl h))))) counted = let first : Takes o (n + 1) ≡ Takes 0 0 = h.1 in let zero_is : n + 1 ≡ 0 = cc in omega (arith, zero_is)
none_taken a o n (inr (inr (inr (inr (inr h))))) counted = absurd h

closed : IsClosed (actions worked_log) worked_cut
closed a b counted (Earlier same less) = let cuts : worked_cut a.lane ≡ worked_cut b.lane = ap worked_cut same in omega (arith, counted, less, cuts)
closed a b counted (Took o n took freed apart) = absurd (none_taken a o n took counted)

legal : IsLegal worked_setting worked_log
legal = (((((tt, (refl, refl, omega arith), tt, omega arith), (refl, refl), tt, (omega arith, refl)), (refl, refl), tt, omega arith), (refl, refl, omega arith), tt, omega arith), (refl, refl), tt, (omega arith, refl))

round : IsRoundOf worked_layout 2 worked_setting worked_log worked_cut (worked_section 0 ∷ [])
round = record {
  legal = legal;
  whole = whole;
  closed = closed;
  lanes = (omega arith, (omega arith, (omega arith, (omega arith, (omega arith, tt)))));
  within = omega arith;
  helper = inr (omega arith);
  preceding = (record { object = omega arith; fields = (omega arith, refl, refl, tt); number = omega arith; before = refl }, tt, tt);
}

pub worked : WorkedRound
worked = record { round = round; first = refl; second = refl; number = λ n are. let at : 1 ≡ n + 1 = are.0.before in omega (arith, at) }
