-- How a lane's records are counted.
use Rattle.std.specs.Prelude.{ℕ, ◌≡◌, ◌≤◌, length, take, List, map, reverse}
use Rattle.heap_model.specs.Sections.{Action, undo_action, holding, ended}
use Rattle.heap_model.specs.declared.record.UndoRecord.{UndoRecord}
pub use Rattle.recover_logs.specs.Lanes.{FreesHeld}

-- what records, which have the oldest first, did; the newest is first
abbrev pub acts_of : List UndoRecord → List Action
acts_of records = map undo_action (reverse records)

-- after so many of the records, which have the oldest first, the lane holds nothing, and no more than `kept` sections ended in them
pub record IsRestAfter (records : List UndoRecord) (settled kept : ℕ) : Type 0 where
  pub free : length (holding (acts_of (take settled records))) ≡ 0
  pub kept_all : ended (acts_of (take settled records)) ≤ kept
