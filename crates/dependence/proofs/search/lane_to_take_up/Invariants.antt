use Rattle.std.proofs.Common.{ℕ, ◌<◌}
use Rattle.heap_model.specs.Cuts.{counts_of}
use Rattle.dependence.specs.Search.{IsLeft}
use Rattle.dependence.proofs.search.lane_to_take_up.Given as goal

abbrev pub invariant-loop-lane : goal.invariant-loop-lane
invariant-loop-lane l = (k : ℕ) → k < l.lane → ¬ IsLeft l.steps l.left (counts_of l.cut) k
