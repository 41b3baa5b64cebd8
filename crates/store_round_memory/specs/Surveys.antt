-- What a survey finds of records (this project's own). A list of (lane, record) has its newest record first.
use Rattle.std.specs.Prelude.{ℕ, ◌≡◌, ◌≢◌, ◌↔◌, ◌+◌, ◌<◌, ◌≤◌, ◌^◌, Bool, true, false, List, [], ◌∷◌, ◌++◌, All, AllPairs, Contains, length, slice_index, slice_index_or, slice_set, Some, vec_capacity, if◌then◌else◌}
use Rattle.std.specs.List.Sorted.{IsNonDecreasingBy}
use Rattle.heap_model.specs.declared.ids.FieldId.{FieldId}
use Rattle.heap_model.specs.declared.record.LaneRecord.{LaneRecord}
use Rattle.heap_model.specs.declared.record.Record.{Record}
use Rattle.heap_model.specs.declared.record.Record.TheVariants.{Acq, Rel, WaitRel, Put}
use Rattle.store_round_image.specs.Turning.{fields_of}
use Rattle.store_round_image.specs.declared.cells.HomeValue.{HomeValue}
use Rattle.store_round_memory.specs.Counting.{first_of, kept_store, kept_takes, takes}
use Rattle.store_round_memory.specs.declared.survey.Survey.{Survey}

-- the record's object or field is one of so many, and its number has one behind it
abbrev pub Fits : (objects fields : ℕ) → Record → Type 0
Fits objects fields (Acq o n) = (o.0 < objects) × (n + 1 < 2 ^ 64)
Fits objects fields (Rel o n) = Unit {0}
Fits objects fields (WaitRel o n) = Unit {0}
Fits objects fields (Put f before after) = f.0 < fields

-- so does the record of a lane, which is one of so many
abbrev pub FitsLane : (lanes objects fields : ℕ) → LaneRecord → Type 0
FitsLane lanes objects fields e = (e.lane.0 < lanes) × Fits objects fields e.record

-- the lane is one of 32
abbrev pub HasLane : LaneRecord → Type 0
HasLane e = e.lane.0 < 32

-- the value is of one of so many fields
abbrev pub HasField : (fields : ℕ) → HomeValue → Type 0
HasField fields c = c.field.0 < fields

-- the values stand in the order of their fields
abbrev pub IsSortedByField : List HomeValue → Type 0
IsSortedByField changed = IsNonDecreasingBy (λ c. c.field.0) changed

-- how many of the marks are set
abbrev pub count_set : List Bool → ℕ
count_set [] = 0
count_set (b ∷ marks) = if b then count_set marks + 1 else count_set marks

-- whether the field's mark is set
abbrev pub is_marked : (marks : List Bool) → (field : ℕ) → Bool
is_marked marks f = slice_index_or marks f false

-- the values are of different fields, and the marks tell which these are
pub record AreMarked (changed : List HomeValue) (marks : List Bool) : Type 0 where
  pub listed : (f : ℕ) → Contains (fields_of changed) f ↔ (is_marked marks f ≡ true)
  pub once : AllPairs (λ c d. c.field.0 ≢ d.field.0) changed
  pub many : length changed ≤ count_set marks

-- The survey's marks tell which fields its values are of, of which it has room for so many. Each object's first number is that of the
-- takes that are open.
pub record IsSurvey (objects fields : ℕ) (v : Survey) : Type 0 where
  pub marks : length v.marks.items ≡ fields
  pub first : length v.first.items ≡ objects
  pub room : fields ≤ vec_capacity v.changed
  pub marked : AreMarked v.changed.items v.marks.items
  pub taken : length v.taken.items ≡ objects
  pub opened : length v.open_takes.items ≡ objects
  pub firsts : (o : ℕ) → slice_index v.first.items o ≡ first_of (slice_index v.taken.items o) (slice_index v.open_takes.items o)

-- the survey can be made of these records: it has a mark for each of their fields, and a number for each of their objects
abbrev pub CanSurvey : Survey → List LaneRecord → Type 0
CanSurvey v records = (objects : ℕ) × (fields : ℕ) × IsSurvey objects fields v × All (FitsLane 32 objects fields) records

-- it stays one of as many objects and fields
abbrev pub StaysSurvey : (old new : Survey) → Type 0
StaysSurvey old new = (objects fields : ℕ) → IsSurvey objects fields old → IsSurvey objects fields new

-- of each object as many of these records' takes are open as the lanes' first so many don't have
abbrev pub AreOpen : (counts : List ℕ) → List (ℕ × Record) → Survey → Type 0
AreOpen counts records v = (o : ℕ) → slice_index v.open_takes.items o + kept_takes counts o records ≡ takes o records

-- all are
abbrev pub AreAllOpen : List (ℕ × Record) → Survey → Type 0
AreAllOpen records v = (o : ℕ) → slice_index v.open_takes.items o ≡ takes o records

-- the survey tells of all records, but for these older ones
pub record TellsDownTo (counts : List ℕ) (all older : List (ℕ × Record)) (v : Survey) : Type 0 where
  pub values : All (λ c. kept_store counts c.field.0 all ≡ Some c.value) v.changed.items
  pub rest : (f : ℕ) → is_marked v.marks.items f ≡ false → kept_store counts f all ≡ kept_store counts f older
  pub opened : (o : ℕ) → slice_index v.open_takes.items o + kept_takes counts o all ≡ takes o all + kept_takes counts o older

-- the field's value was noted
pub record NotesStore (field : FieldId) (value : ℕ) (old new : Survey) : Type 0 where
  pub changed : new.changed.items ≡ old.changed.items ++ record { field = field; value = value } ∷ []
  pub marks : new.marks.items ≡ slice_set old.marks.items field.0 true
  pub taken : new.taken.items ≡ old.taken.items
  pub opened : new.open_takes.items ≡ old.open_takes.items
  pub first : new.first.items ≡ old.first.items
  pub capacity : vec_capacity new.changed ≡ vec_capacity old.changed

-- so many takes of the object are open
pub record SetsOpen (object count : ℕ) (old new : Survey) : Type 0 where
  pub changed : new.changed ≡ old.changed
  pub marks : new.marks ≡ old.marks
  pub taken : new.taken ≡ old.taken
  pub opened : new.open_takes.items ≡ slice_set old.open_takes.items object count
  pub first : new.first.items ≡ slice_set old.first.items object (first_of (slice_index old.taken.items object) count)

-- the survey has found nothing
pub record FoundNothing (v : Survey) : Type 0 where
  pub changed : v.changed.items ≡ []
  pub marks : (f : ℕ) → is_marked v.marks.items f ≡ false

-- it tells of as many records as before, and of the same
abbrev pub TellsAsBefore : (old new : Survey) → Type 0
TellsAsBefore old new = (counts : List ℕ) (all older : List (ℕ × Record)) → TellsDownTo counts all older old → TellsDownTo counts all older new

-- no lane has one of its records before its front
abbrev pub AreFronts : List LaneRecord → (fronts : List ℕ) → Type 0
AreFronts records fronts = (l k : ℕ) (d : LaneRecord) → l < 32 → k < slice_index fronts l → (slice_index_or records k d).lane.0 ≢ l
