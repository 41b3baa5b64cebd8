use Rattle.std.proofs.Common.{ℕ, List, ◌≤◌, length, slice_index, slice_set, inl, inr, ap, ◌∙◌, arith, length-set, get_or-set_same, get_or-set_other}
use Rattle.std.proofs.lemmas.Bool.{cases_eq, cases_lt}
use Rattle.std.proofs.lemmas.List.{get_or_past}
use Rattle.model_tests.proofs.graphs.told.without.Goals as goal

-- a number that is set to 0 doesn't rise
set_none : (xs : List ℕ) (i l : ℕ) → slice_index (slice_set xs i 0) l ≤ slice_index xs l
set_none xs i l = elim (cases_lt l (length xs)) [
  | inr past ↦ omega (arith, get_or_past (slice_set xs i 0) l 0 (omega (arith, length-set xs i 0)))
  | inl lt ↦ elim (cases_eq l i) [
    | inl e ↦ omega (arith, ap (slice_index (slice_set xs i 0)) e ∙ get_or-set_same xs i 0 0 (omega arith))
    | inr ne ↦ omega (arith, get_or-set_other xs i l 0 0 ne)
  ]
]

pub returns : goal.returns
returns c = λ l. set_none c.args.cut.counts c.args.lane.0 l
