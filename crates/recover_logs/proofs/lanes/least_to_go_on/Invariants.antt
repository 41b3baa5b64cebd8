use Rattle.std.proofs.Common.{ℕ, ◌<◌, slice_index}
use Rattle.recover_logs.specs.Logs.{guard_in}
use Rattle.heap_model.specs.declared.record.UndoRecord.{UndoRecord}
use Rattle.recover_logs.specs.Logs.{lanes_of}
use Rattle.recover_logs.specs.Tables.{GoesOnBy}
use Rattle.recover_logs.proofs.lanes.least_to_go_on.Given as goal

abbrev pub invariant-loop-lane : goal.invariant-loop-lane
invariant-loop-lane l = (m : ℕ) (r : UndoRecord) → m < l.lane → GoesOnBy (guard_in l.guards) l.monitors (lanes_of l.logs m) (slice_index l.left m) m r → ⊥
