-- How a lane's records are read: a run of them at a time.
use Rattle.std.specs.Prelude.{ℕ, ◌*◌, ◌<◌, List, length}
use Rattle.std.specs.List.{slice_index_or}
use Rattle.heap_model.specs.declared.record.UndoRecord.{UndoRecord}
use Rattle.block_disk.specs.Bytes.{part}
use Rattle.image_parts.specs.declared.layout.Layout.{Layout}
use Rattle.undo_log.specs.Area.{SpellsIn, HasSpan}

-- each of these places has a record
abbrev pub IsFull : Layout → (lane from to : ℕ) → List ℕ → Type 0
IsFull l lane from to image = (records : List UndoRecord) × HasSpan l lane from to image records

-- the bytes, 16 for each, are those of the first n records
abbrev pub HoldsFirst : Layout → List ℕ → ℕ → List UndoRecord → Type 0
HoldsFirst l bytes n records = (i : ℕ) (d : UndoRecord) → i < n → SpellsIn l (part (16 * i) 16 bytes) (slice_index_or records i d)

-- they are those of the records before place i of the run, and no record's there
pub record BreaksAt (l : Layout) (bytes : List ℕ) (records : List UndoRecord) (i : ℕ) : Type 0 where
  pub within : i < length records
  pub before : HoldsFirst l bytes i records
  pub bad : (r : UndoRecord) → SpellsIn l (part (16 * i) 16 bytes) r → ⊥
