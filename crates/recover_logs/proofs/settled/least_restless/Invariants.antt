use Rattle.std.proofs.Common.{ℕ, ◌<◌}
use Rattle.recover_logs.specs.Logs.{kept_of, lanes_of, settled_of}
use Rattle.recover_logs.specs.Settled.{IsAtRest}
use Rattle.recover_logs.proofs.settled.least_restless.Given as goal

abbrev pub invariant-loop-lane : goal.invariant-loop-lane
invariant-loop-lane l = (m : ℕ) → m < l.lane → IsAtRest (settled_of l.counts) (kept_of l.counts) (lanes_of l.logs) m
