use Rattle.std.proofs.Common.{take}
use Rattle.recover_logs.specs.Logs.{settled_of}
use Rattle.recover_logs.specs.Tables.{log_of}
use Rattle.recover_logs.specs.Crossings.{AreCrossings}
use Rattle.recover_logs.proofs.walk.least_crossing.Given as goal

abbrev pub invariant-loop-step : goal.invariant-loop-step
invariant-loop-step l = AreCrossings (settled_of l.counts) (log_of (take l.step-index l.steps)) l.crossings
