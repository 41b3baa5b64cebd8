use Rattle.std.proofs.Common.{◌≡◌}
use Rattle.pool.specs.Knowing.{home_of}
use Rattle.session_tests.proofs.pool_calls.follow.Given as goal

abbrev pub invariant-loop-call : goal.invariant-loop-call
invariant-loop-call l = home_of l.cells ≡ home_of l.initial.cells
