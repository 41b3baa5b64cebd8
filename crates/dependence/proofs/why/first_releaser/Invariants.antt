use Rattle.heap_model.specs.Cuts.{counts_of}
use Rattle.dependence.specs.Search.{TookInsideUpTo}
use Rattle.dependence.proofs.why.first_releaser.Given as goal

abbrev pub invariant-loop-place : goal.invariant-loop-place
invariant-loop-place l = TookInsideUpTo l.steps (counts_of l.cut) l.section.lane.0 l.section.section l.place
