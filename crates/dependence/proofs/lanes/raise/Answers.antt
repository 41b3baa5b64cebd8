use Rattle.std.proofs.Common.{◌≡◌, slice_index, inl, inr, arith, length}
use Rattle.std.proofs.lemmas.Bool.{cases_lt}
use Rattle.std.proofs.lemmas.List.{get_or_past}
use Rattle.dependence.proofs.lanes.raise.Goals as goal

pub returns : goal.returns
returns c = λ l. elim (cases_lt l (length c.args.to.now)) [
  | inl lt ↦ c.loop-l.invariant.raised l (omega arith)
  | inr ge ↦
      let none : slice_index c.args.to.now l ≡ 0 = get_or_past c.args.to.now l 0 ge in
      let none_too : slice_index c.args.base.now l ≡ 0 = get_or_past c.args.base.now l 0 (omega arith) in
      let none_now : slice_index c.loop-l.base l ≡ 0 = get_or_past c.loop-l.base l 0 (omega arith) in
      omega arith
]
