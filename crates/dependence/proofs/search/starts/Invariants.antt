use Rattle.heap_model.specs.Cuts.{counts_of}
use Rattle.dependence.specs.Search.{IsStart}
use Rattle.dependence.proofs.search.starts.Given as goal

abbrev pub invariant-loop-lane : goal.invariant-loop-lane
invariant-loop-lane l = IsStart l.links.newest (counts_of l.answered) (counts_of l.candidates) l.start
