-- The lanes' live records, as they were read.
use Rattle.std.specs.Prelude.{ℕ, ◌≡◌, ◌<◌, ◌+◌, if◌then◌else◌, All, List, length, map, slice_index_or, Vec, Option, Some, None, MatchResult, Result}
use Rattle.std.specs.declared.alloc.Global.{Global}
use Rattle.heap_model.specs.declared.ids.Lane.{Lane}
use Rattle.heap_model.specs.declared.ids.ObjectId.{ObjectId}
use Rattle.heap_model.specs.declared.record.UndoRecord.{UndoRecord}
use Rattle.image_parts.specs.declared.layout.Layout.{Layout}
use Rattle.image_parts.specs.declared.lane_row.LaneRow.{LaneRow}
use Rattle.image_parts.specs.declared.guard_row.GuardRow.{GuardRow}
use Rattle.undo_log.specs.Area.{HasRecord, HasSpan, IsLoggable}
use Rattle.undo_log.specs.Runs.{IsFull}
use Rattle.undo_log.specs.StandsFor.{row_of, guard_in, HasLive}
pub use Rattle.recover_logs.specs.Logs.{records_of, lanes_of}
use Rattle.recover_logs.specs.Replay.{Replays}
use Rattle.recover_logs.specs.Tables.{log_of}
use Rattle.recover_logs.specs.declared.step.Step.{Step}
use Rattle.recover_heap.specs.declared.error.RecoverError.{RecoverError}
use Rattle.recover_heap.specs.declared.error.RecoverError.TheVariants.{Fault, BadRecord, NoMemory}

-- the object whose monitor the stores of the row's field need that logs keep; none where it is transient, as logs keep none of them
abbrev pub logged_guard : GuardRow → Option ObjectId
logged_guard row = if row.transient then None else Some row.guard

-- the field's, of these rows
abbrev pub logged_guard_in : List GuardRow → (field : ℕ) → Option ObjectId
logged_guard_in guards f = slice_index_or (map logged_guard guards) f None

-- these are the lanes' live records of the image
pub record AreLogs (l : Layout) (image : List ℕ) (rows : List LaneRow) (logs : List (Vec UndoRecord Global)) : Type 0 where
  pub count : length logs ≡ l.lanes
  pub live : HasLive l image rows (lanes_of logs)

-- the lane's live places have records, up to this one
abbrev pub IsReadTo : Layout → List ℕ → List LaneRow → (lane place : ℕ) → Type 0
IsReadTo l image rows lane place = IsFull l lane (row_of rows lane).start place image

-- this place of the lane is live and has no record, and no live place before it in the lane is such
pub record IsBadAt (l : Layout) (image : List ℕ) (rows : List LaneRow) (lane place : ℕ) : Type 0 where
  pub live : place < (row_of rows lane).logged
  pub bad : (r : UndoRecord) → HasRecord l lane place image r → ⊥
  pub before : IsReadTo l image rows lane place

-- what each refusal to read the live records of the lane that has this row says of the image
abbrev pub RefusesLane : Layout → List ℕ → Lane → LaneRow → RecoverError → Type 0
RefusesLane l image lane row Fault = Unit {0}
RefusesLane l image lane row (BadRecord other place) =
    (other ≡ lane) × (place < row.logged) × ((r : UndoRecord) → HasRecord l lane.0 place image r → ⊥) × IsFull l lane.0 row.start place image
RefusesLane l image lane row NoMemory = Unit {0}
RefusesLane l image lane row _ = ⊥

-- what each refusal to read the lanes' live records says of the image: the least lane with a bad place, and its least; want
-- of memory is met lane by lane
abbrev pub RefusesLogs : Layout → List ℕ → List LaneRow → RecoverError → Type 0
RefusesLogs l image rows Fault = Unit {0}
RefusesLogs l image rows (BadRecord lane place) =
    (lane.0 < l.lanes) × IsBadAt l image rows lane.0 place × ((m : ℕ) → m < lane.0 → IsReadTo l image rows m (row_of rows m).logged)
RefusesLogs l image rows NoMemory = Unit {0}
RefusesLogs l image rows _ = ⊥

-- what the lanes' live records of an image are: each is one that the image may have, and as many as the lane's row says
pub record AreLoggable (l : Layout) (rows : List LaneRow) (logs : List (Vec UndoRecord Global)) : Type 0 where
  pub count : length logs ≡ l.lanes
  pub size : (lane : ℕ) → lane < l.lanes → (row_of rows lane).start + length (records_of logs lane) ≡ (row_of rows lane).logged
  pub each : (lane : ℕ) → All (IsLoggable l) (records_of logs lane)

-- what the guard rows of an image are: there is one for each field, and its guard is an object of the image
pub record AreGuards (l : Layout) (guards : List GuardRow) : Type 0 where
  pub count : length guards ≡ l.fields
  pub each : (f : ℕ) → f < l.fields → guard_in guards f < l.objects

-- the steps, which have the oldest first, are the replay of these logs of an image with these guard rows
abbrev pub AreReplayOf : List GuardRow → (logs : List (Vec UndoRecord Global)) → List Step → Type 0
AreReplayOf guards logs steps = Replays (logged_guard_in guards) (lanes_of logs) (log_of steps)

-- the live records of a lane with this row are read, or refused for what the refusal says
abbrev pub ReadsLane : Layout → List ℕ → Lane → LaneRow → Result (Vec UndoRecord Global) RecoverError → Type 0
ReadsLane l image lane row result = MatchResult result (λ records. HasSpan l lane.0 row.start row.logged image records.items) (RefusesLane l image lane row)

-- the lanes' live records are read, or refused for what the refusal says
abbrev pub ReadsLogs : Layout → List ℕ → List LaneRow → Result (Vec (Vec UndoRecord Global) Global) RecoverError → Type 0
ReadsLogs l image rows result = MatchResult result (λ logs. AreLogs l image rows logs.items) (RefusesLogs l image rows)
