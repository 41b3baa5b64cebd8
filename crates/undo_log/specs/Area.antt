-- The records of a lane in the image. They lie in the lane's area, which its places go round and round (this project's own).
use Rattle.std.specs.Prelude.{ℕ, zero, suc, ◌≡◌, ◌+◌, ◌<◌, List, [], ◌∷◌, length}
use Rattle.heap_model.specs.declared.ids.Lane.{Lane}
use Rattle.heap_model.specs.declared.record.UndoRecord.{UndoRecord}
use Rattle.heap_model.specs.declared.record.UndoRecord.TheVariants.{Acq, Rel, WaitRel, Put}
use Rattle.block_disk.specs.Bytes.{part}
use Rattle.block_disk.specs.Device.{Range}
use Rattle.image_parts.specs.Layout.{record_at}
use Rattle.image_parts.specs.Calls.{Call, Write}
use Rattle.image_parts.specs.declared.layout.Layout.{Layout}
use Rattle.undo_log.specs.RecordBytes.{record_bytes, IsInRange, Spells}
use Rattle.undo_log.specs.declared.error.LogError.{LogError}
use Rattle.undo_log.specs.declared.error.LogError.TheVariants.{Fault, LogFull, BadRecord, NoMemory}

-- the record's object or field is one of the image's
abbrev pub IsOfImage : Layout → UndoRecord → Type 0
IsOfImage l (Acq object number) = object.0 < l.objects
IsOfImage l (Rel object number) = object.0 < l.objects
IsOfImage l (WaitRel object number) = object.0 < l.objects
IsOfImage l (Put field before) = field.0 < l.fields

-- a record that a lane of the image may have
pub record IsLoggable (l : Layout) (r : UndoRecord) : Type 0 where
  pub range : IsInRange r
  pub named : IsOfImage l r

-- the bytes are those of this record, and the image has its object or field
pub record SpellsIn (l : Layout) (bytes : List ℕ) (r : UndoRecord) : Type 0 where
  pub spelled : Spells bytes r
  pub named : IsOfImage l r

-- the image has this record at this place of the lane
abbrev pub HasRecord : Layout → (lane place : ℕ) → List ℕ → UndoRecord → Type 0
HasRecord l lane place image r = SpellsIn l (part (record_at l lane place) 16 image) r

-- the image has these records of the lane from this place on, the oldest first
abbrev pub HasRecords : Layout → (lane place : ℕ) → List ℕ → List UndoRecord → Type 0
HasRecords l lane place image [] = Unit {0}
HasRecords l lane place image (r ∷ newer) = HasRecord l lane place image r × HasRecords l lane (place + 1) image newer

-- these are the image's records of the lane from one place up to another, the oldest first
pub record HasSpan (l : Layout) (lane from to : ℕ) (image : List ℕ) (records : List UndoRecord) : Type 0 where
  pub size : from + length records ≡ to
  pub each : HasRecords l lane from image records

-- An image has one list of records between two places: what is read is what was appended.
abbrev pub OneSpanLaw : Type 0
OneSpanLaw = (l : Layout) (lane from to : ℕ) (image : List ℕ) (records others : List UndoRecord) →
    HasSpan l lane from to image records → HasSpan l lane from to image others → records ≡ others

-- what each refusal to read these places says of the image: the first place with no record, or that there is none; with no
-- place to read, memory isn't wanted
abbrev pub RefusesRead : Layout → Lane → (from to : ℕ) → List ℕ → LogError → Type 0
RefusesRead l lane from to image Fault = Unit {0}
RefusesRead l lane from to image (LogFull other) = ⊥
RefusesRead l lane from to image (BadRecord other place) =
    (other ≡ lane) × (place < to) × ((r : UndoRecord) → HasRecord l lane.0 place image r → ⊥) × ((records : List UndoRecord) × HasSpan l lane.0 from place image records)
RefusesRead l lane from to image NoMemory = (from < to) × ((records : List UndoRecord) × HasSpan l lane.0 from to image records)

-- the bytes of the lane's record of this place
abbrev pub record_range : Layout → (lane place : ℕ) → Range
record_range l lane place = record { start = record_at l lane place; len = 16 }

-- the bytes of n records from this place on
abbrev pub record_ranges : Layout → (lane place n : ℕ) → List Range
record_ranges l lane place zero = []
record_ranges l lane place (suc n) = record_range l lane place ∷ record_ranges l lane (place + 1) n

-- a write for each of these records, from this place on
abbrev pub record_writes : Layout → (lane place : ℕ) → List UndoRecord → List Call
record_writes l lane place [] = []
record_writes l lane place (r ∷ newer) = Write (record_at l lane place) (record_bytes r) ∷ record_writes l lane (place + 1) newer
