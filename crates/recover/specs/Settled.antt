-- The acknowledged sections of an image's live records, by the rows of its control (this project's own). Lists have their
-- newest element first; a place is one of the image, and counts the lane's records since the heap was opened.
use Rattle.std.specs.Prelude.{ℕ, ◌≡◌, ◌+◌, List, Option, Result, MatchResult, Vec}
use Rattle.std.specs.declared.alloc.Global.{Global}
use Rattle.heap_model.specs.declared.ids.ObjectId.{ObjectId}
use Rattle.heap_model.specs.declared.record.UndoRecord.{UndoRecord}
use Rattle.image_parts.specs.declared.lane_row.LaneRow.{LaneRow}
use Rattle.image_parts.specs.declared.guard_row.GuardRow.{GuardRow}
use Rattle.recover_heap.specs.Logs.{lanes_of, logged_guard_in}
use Rattle.undo_log.specs.StandsFor.{row_of, settled_of}
use Rattle.recover_logs.specs.Replay.{Replays, IsStuckAt}
use Rattle.recover_logs.specs.Settled as logs
pub use Rattle.recover_logs.specs.Settled.{first_of, HasAt, TakesUnsettled, IsLeastUnsettled}
use Rattle.recover_heap.specs.declared.error.RecoverError.{RecoverError}
use Rattle.recover_heap.specs.declared.error.RecoverError.TheVariants.{IllegalLog, NoMemory}

-- how many sections of the lane the control keeps
abbrev pub kept_of : List LaneRow → (lane : ℕ) → ℕ
kept_of rows l = (row_of rows l).kept

-- the lane's records before the place up to which it is settled
abbrev pub settled_records : List LaneRow → (lanes : ℕ → List UndoRecord) → (lane : ℕ) → List UndoRecord
settled_records rows lanes l = logs.settled_records (settled_of rows) lanes l

-- the lane is settled up to a place where it holds nothing, and no more sections ended before it than the control keeps
abbrev pub IsAtRest : List LaneRow → (lanes : ℕ → List UndoRecord) → (lane : ℕ) → Type 0
IsAtRest rows lanes l = logs.IsAtRest (settled_of rows) (kept_of rows) lanes l

-- that is the least lane that isn't at rest
abbrev pub IsLeastRestless : List LaneRow → (lanes : ℕ → List UndoRecord) → (lane : ℕ) → Type 0
IsLeastRestless rows lanes l = logs.IsLeastRestless (settled_of rows) (kept_of rows) lanes l

-- the logs are those of a legal list, and each lane is at rest where it is settled
abbrev pub AreAtRest : (guard : ℕ → Option ObjectId) → List LaneRow → (lanes : ℕ → List UndoRecord) → Type 0
AreAtRest guard rows lanes = logs.AreAtRest guard (settled_of rows) (kept_of rows) lanes

-- what no test of the logs refuses: they are those of a legal list, with whole acknowledged sections that depend on none but such
abbrev pub AreLegal : (guard : ℕ → Option ObjectId) → List LaneRow → (lanes : ℕ → List UndoRecord) → Type 0
AreLegal guard rows lanes = logs.AreLegal guard (settled_of rows) (kept_of rows) lanes

-- which place each of the three tests names, in their order: where the replay is stuck; the place up to which the least
-- restless lane is settled; the first acquire from outside
pub data IsIllegalAt (guard : ℕ → Option ObjectId) (rows : List LaneRow) (lanes : ℕ → List UndoRecord) (l place : ℕ) : Type 0 where
  Stuck : (count : ℕ) → IsStuckAt guard lanes l count → place ≡ (row_of rows l).start + count → IsIllegalAt guard rows lanes l place
  Restless : (done : List (ℕ × UndoRecord)) → Replays guard lanes done → IsLeastRestless rows lanes l → place ≡ (row_of rows l).settled → IsIllegalAt guard rows lanes l place
  Crossing : (i : ℕ) → AreAtRest guard rows lanes → IsLeastUnsettled (settled_of rows) lanes l i → place ≡ (row_of rows l).start + i → IsIllegalAt guard rows lanes l place

-- what each refusal of the logs says
abbrev pub RefusesLegal : (guard : ℕ → Option ObjectId) → List LaneRow → (lanes : ℕ → List UndoRecord) → RecoverError → Type 0
RefusesLegal guard rows lanes (IllegalLog lane place) = IsIllegalAt guard rows lanes lane.0 place
RefusesLegal guard rows lanes NoMemory = Unit {0}
RefusesLegal guard rows lanes _ = ⊥

-- the logs of an image with these guard rows and these rows of its control are accepted where they are legal, or refused for what the refusal says
abbrev pub TestsLive : {T : Type 0} → List GuardRow → List LaneRow → List (Vec UndoRecord Global) → Result T RecoverError → Type 0
TestsLive guards rows logs result = MatchResult result (λ _. AreLegal (logged_guard_in guards) rows (lanes_of logs)) (RefusesLegal (logged_guard_in guards) rows (lanes_of logs))
