-- What the tests of the lanes' live records say of an image.
use Rattle.std.proofs.Common.{ℕ, ◌+◌, ◌≤◌, List, refl, arith, Option}
use Rattle.heap_model.specs.declared.ids.ObjectId.{ObjectId}
use Rattle.heap_model.specs.declared.record.UndoRecord.{UndoRecord}
use Rattle.image_parts.specs.declared.lane_row.LaneRow.{LaneRow}
use Rattle.undo_log.specs.StandsFor.{row_of, settled_of}
use Rattle.recover_logs.specs.Settled as logs
use Rattle.recover.specs.Settled.{IsIllegalAt, Stuck, Restless, Crossing, kept_of}

-- the place that a test names is one of the image, where the lane's records begin at its row's start
pub illegal_at : (guard : ℕ → Option ObjectId) (rows : List LaneRow) (lanes : ℕ → List UndoRecord) (l count : ℕ) → (row_of rows l).start ≤ (row_of rows l).settled → logs.IsIllegalAt guard (settled_of rows) (kept_of rows) lanes l count → IsIllegalAt guard rows lanes l ((row_of rows l).start + count)
illegal_at guard rows lanes l count le (logs.Stuck stuck) = Stuck count stuck refl
illegal_at guard rows lanes l count le (logs.Restless done replays least at) = Restless done replays least (omega arith)
illegal_at guard rows lanes l count le (logs.Crossing rest least) = Crossing count rest least refl
