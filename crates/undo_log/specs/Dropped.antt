-- What undo logs tell of a log and a cut of it.
use Rattle.std.specs.Prelude.{ℕ, ◌+◌, nat_lt, if◌then◌else◌, List, [], ◌∷◌, length, map}
use Rattle.heap_model.specs.declared.record.Record.{Record}
use Rattle.heap_model.specs.declared.record.UndoRecord.{UndoRecord}
use Rattle.heap_model.specs.Record.{undo_of}
use Rattle.heap_model.specs.Log.{lane}
use Rattle.heap_model.specs.Sections.{ended, undo_action}
use Rattle.undo_log.specs.OldValues.{OldValue, HasOld, IsBeyond}

-- the undo log of each lane
abbrev pub undo_logs : List (ℕ × Record) → ℕ → List UndoRecord
undo_logs log l = map undo_of (lane l log)

-- how many records the lane's first n sections have
abbrev pub records_in : ℕ → List UndoRecord → ℕ
records_in n [] = 0
records_in n (r ∷ older) = if nat_lt (ended (map undo_action older)) n then length older + 1 else records_in n older

-- the log has a store to the field that the cut drops
pub record IsDropped (guard field : ℕ) (log : List (ℕ × Record)) (cut : ℕ → ℕ) : Type 0 where
  pub lane : ℕ
  pub store : OldValue
  pub logged : HasOld guard field (undo_logs log lane) store
  pub beyond : IsBeyond cut lane store
