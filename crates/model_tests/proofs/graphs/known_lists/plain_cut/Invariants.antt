use Rattle.std.proofs.Common.{◌<◌, All}
use Rattle.model_tests.proofs.graphs.known_lists.plain_cut.Given as goal

abbrev pub invariant-loop-lane : goal.invariant-loop-lane
invariant-loop-lane l = All (λ e. e.lane.0 < 32) l.entries.items
