-- The bytes of a record in the image. The format is this project's own (docs/FORMAT.md, "Records").
use Rattle.std.specs.Prelude.{ℕ, List, [], ◌∷◌, ◌++◌, ◌<◌, ◌-◌, ◌^◌, ◌≡◌}
use Rattle.std.specs.Int.{to_be_bytes, w32, w64}
use Rattle.heap_model.specs.declared.record.UndoRecord.{UndoRecord}
use Rattle.heap_model.specs.declared.record.UndoRecord.TheVariants.{Acq, Rel, WaitRel, Put}

-- which kind of record it is
abbrev pub kind_of : UndoRecord → ℕ
kind_of (Acq object number) = 1
kind_of (Rel object number) = 2
kind_of (WaitRel object number) = 3
kind_of (Put field before) = 4

-- the object that it is about, or for a store the field
abbrev pub id_of : UndoRecord → ℕ
id_of (Acq object number) = object.0
id_of (Rel object number) = object.0
id_of (WaitRel object number) = object.0
id_of (Put field before) = field.0

-- the release number, or for a store the value before
abbrev pub word_of : UndoRecord → ℕ
word_of (Acq object number) = number
word_of (Rel object number) = number
word_of (WaitRel object number) = number
word_of (Put field before) = before

-- the kind, three zeros, the id in 4 bytes and the word in 8
abbrev pub record_bytes : UndoRecord → List ℕ
record_bytes r = kind_of r ∷ 0 ∷ 0 ∷ 0 ∷ to_be_bytes w32 (id_of r) ++ to_be_bytes w64 (word_of r)

-- the bytes of these records, one behind the other
abbrev pub run_bytes : List UndoRecord → List ℕ
run_bytes [] = []
run_bytes (r ∷ newer) = record_bytes r ++ run_bytes newer

-- its object, its field and its number are within the limits of every image; the value before a store is any word
abbrev pub IsInRange : UndoRecord → Type 0
IsInRange (Acq object number) = (object.0 < 4096) × (number < 2 ^ 40 - 1)
IsInRange (Rel object number) = (object.0 < 4096) × (number < 2 ^ 40 - 1)
IsInRange (WaitRel object number) = (object.0 < 4096) × (number < 2 ^ 40 - 1)
IsInRange (Put field before) = (field.0 < 16384) × (before < 2 ^ 64)

-- the bytes are those of this record
pub record Spells (bytes : List ℕ) (r : UndoRecord) : Type 0 where
  pub spelled : bytes ≡ record_bytes r
  pub range : IsInRange r
