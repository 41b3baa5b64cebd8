use Rattle.std.proofs.Common.{arith, below_more}
use Rattle.dependence.proofs.why.first_releaser.Goals as goal

pub returns-in-Some : goal.returns-in-Some
returns-in-Some c = record { take = c.loop-place.place; took = c.in-Some.ensures; first = c.loop-place.invariant }

pub loop-place-preserved : goal.loop-place-preserved
loop-place-preserved c = below_more _ _ c.loop-place.invariant c.in_default.ensures

pub returns : goal.returns
returns c = λ i lt. c.loop-place.invariant i (omega arith)
