use Rattle.std.proofs.Common.{subst, inl, inr, arith}
use Rattle.std.proofs.lemmas.Bool.{cases_eq}
use Rattle.trim_helper.specs.Moves.{HasNothing}
use Rattle.trim_helper.proofs.rings.have_nothing.Goals as goal

pub loop-lane-init : goal.loop-lane-init
loop-lane-init c = record { none = λ k lt. absurd (omega (arith, lt)) }

pub loop-lane-preserved : goal.loop-lane-preserved
loop-lane-preserved c = record {
  none = λ k lt. elim (cases_eq c.loop-lane.lane k) [
    | inl at ↦ subst (λ l. HasNothing c.args.rings.now c.args.waiting.now l) at (c.has_nothing.ensures c.if-not-has_nothing.false)
    | inr other ↦ c.loop-lane.invariant.none k (omega (arith, lt, other))
  ];
}

pub returns : goal.returns
returns c = λ is l lt. c.loop-lane.invariant.none l (omega (arith, lt, c.loop-lane-test.false))
