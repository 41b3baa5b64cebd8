-- The records that were applied and not yet logged, in the order applied and by lane (Atlas's undo logs, one a lane).
use Rattle.std.specs.Prelude.{ℕ, ◌≡◌, ◌*◌, ◌<◌, ◌≤◌, List, [], ◌∷◌, map, length, reverse, slice_index, slice_index_or, Vec, vec_capacity}
use Rattle.std.specs.declared.alloc.Global.{Global}
use Rattle.heap_model.specs.declared.record.Record.{Record}
use Rattle.heap_model.specs.declared.record.LaneRecord.{LaneRecord}
use Rattle.heap_model.specs.declared.record.UndoRecord.{UndoRecord}
use Rattle.heap_model.specs.Record.{undo_of}
use Rattle.heap_model.specs.Log.{lane, log_from}

-- the records in the order applied, of so many lanes, and for how many of each lane there is room
pub record FreshRecords : Type 0 where
  pub lanes : ℕ
  pub room : ℕ
  pub records : List LaneRecord

-- the lane's records, as its undo log keeps them, the oldest first
abbrev pub undo_log_of : (lane : ℕ) → List LaneRecord → List UndoRecord
undo_log_of l records = reverse (map undo_of (lane l (log_from records)))

-- each record is of one of the lanes
abbrev pub IsOfLanes : (lanes : ℕ) → List (ℕ × Record) → Type 0
IsOfLanes lanes [] = Unit {0}
IsOfLanes lanes (x ∷ older) = (x.0 < lanes) × IsOfLanes lanes older

-- the lane's undo log, of these; none where there is no such lane
abbrev pub log_in : List (Vec UndoRecord Global) → (lane : ℕ) → List UndoRecord
log_in logs l = slice_index_or (map (λ v. v.items) logs) l []

-- for how many records it has room
abbrev pub room_in : List (Vec UndoRecord Global) → (lane : ℕ) → ℕ
room_in logs l = slice_index (map (λ v. vec_capacity v) logs) l

-- Each lane's log has its records and room for so many. All of them are in the order applied too, where all lanes' have room.
pub record IsSorted (room : ℕ) (records : List LaneRecord) (logs : List (Vec UndoRecord Global)) (capacity : ℕ) : Type 0 where
  pub of_lanes : IsOfLanes (length logs) (log_from records)
  pub kept : (l : ℕ) → l < length logs → log_in logs l ≡ undo_log_of l records
  pub bounded : (l : ℕ) → l < length logs → length (lane l (log_from records)) ≤ room
  pub rooms : (l : ℕ) → l < length logs → room ≤ room_in logs l
  pub held : length logs * room ≤ capacity
