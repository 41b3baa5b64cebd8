use Rattle.std.proofs.Common.{sum}
use Rattle.heap_model.specs.Cuts.{counts_of}
use Rattle.dependence.specs.Search.{IsLooking}
use Rattle.dependence.proofs.search.look_through.Given as goal

abbrev pub invariant-loop-next : goal.invariant-loop-next
invariant-loop-next l = IsLooking l.steps l.start l.search.left (counts_of l.candidates) (counts_of l.search.cut) l.search.causes

abbrev pub decreases-loop-next : goal.decreases-loop-next
decreases-loop-next l = sum l.search.left
