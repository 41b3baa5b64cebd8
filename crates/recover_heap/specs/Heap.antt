-- The heap that an image stands for, by the replay of its live records. Each field takes the value before its first store
-- that isn't settled (undo after Atlas; the order of the stores to a field is this project's own). A list of records has its
-- newest first.
use Rattle.std.specs.Prelude.{ℕ, ◌≡◌, ◌<◌, ◌↔◌, ◌==◌, if◌then◌else◌, nat_le, List, [], ◌∷◌, length, slice_index, map, Contains, Option, Some, None, ◌≢◌, Bool, slice_index_or}
use Rattle.std.specs.List.Sorted.{IsStrictlyIncreasing}
use Rattle.heap_model.specs.Log.{lane}
use Rattle.heap_model.specs.declared.ids.FieldId.{FieldId}
use Rattle.heap_model.specs.declared.record.UndoRecord.{UndoRecord}
use Rattle.heap_model.specs.declared.record.UndoRecord.TheVariants.{Acq, Rel, WaitRel, Put}
use Rattle.image_parts.specs.Cells.{HasHome}
use Rattle.image_parts.specs.declared.guard_row.GuardRow.{GuardRow}
use Rattle.image_parts.specs.declared.lane_row.LaneRow.{LaneRow}
use Rattle.image_parts.specs.declared.layout.Layout.{Layout}
use Rattle.undo_log.specs.OldValues.{OldValue, HasOld, IsUnsettled, TakesBack}
use Rattle.undo_log.specs.StandsFor.{guard_in, row_in, settled_of}
use Rattle.recover_logs.specs.Tables.{log_of}
use Rattle.recover_logs.specs.declared.step.Step.{Step}
use Rattle.recover_heap.specs.declared.error.RecoverError.{RecoverError}
use Rattle.recover_heap.specs.declared.error.RecoverError.TheVariants.{Fault, NoMemory}

-- the value before it, if the record is a store to the field
abbrev pub stored : (field : ℕ) → UndoRecord → Option ℕ
stored f (Acq o n) = None
stored f (Rel o n) = None
stored f (WaitRel o n) = None
stored f (Put g before) = if g.0 == f then Some before else None

-- the earlier value, or where there is none the next one
abbrev pub earlier : Option ℕ → (next : Option ℕ) → Option ℕ
earlier None next = next
earlier (Some value) next = Some value

-- the value before the first of these stores to the field that isn't settled, if there is one
abbrev pub first_old : (settled : ℕ → ℕ) → (field : ℕ) → List (ℕ × UndoRecord) → Option ℕ
first_old settled f [] = None
first_old settled f ((l, r) ∷ older) = earlier (first_old settled f older) (if nat_le (settled l) (length (lane l older)) then stored f r else None)

-- the field has this old value, or where there is none the value that it has at home
abbrev pub IsOldOrHome : Option ℕ → (IsHome : ℕ → Type 0) → ℕ → Type 0
IsOldOrHome None IsHome v = IsHome v
IsOldOrHome (Some old) IsHome v = v ≡ old

-- some lane has a store to the field that isn't settled
pub record IsUndone (guard field : ℕ) (lanes : ℕ → List UndoRecord) (settled : ℕ → ℕ) : Type 0 where
  pub lane : ℕ
  pub store : OldValue
  pub had : HasOld guard field (lanes lane) store
  pub out : IsUnsettled settled lane store

-- these are all fields of this kind, each once, in rising order
pub record AreFields (IsSuch : ℕ → Type 0) (fields : List FieldId) : Type 0 where
  pub rising : IsStrictlyIncreasing (map (λ f. f.0) fields)
  pub each : (f : FieldId) → Contains fields f ↔ IsSuch f.0

-- finding the heap is refused for a read that fails and for want of memory, and for nothing else
abbrev pub RefusesHeap : RecoverError → Type 0
RefusesHeap Fault = Unit {0}
RefusesHeap NoMemory = Unit {0}
RefusesHeap _ = ⊥

-- each field has its oldest value among those that aren't settled, and one that has none has its value at home
abbrev pub TakesAllBack : Layout → List GuardRow → List LaneRow → (lanes : ℕ → List UndoRecord) → (bytes heap : List ℕ) → Type 0
TakesAllBack l guards rows lanes bytes heap =
    (f : ℕ) → f < l.fields → TakesBack (guard_in guards f) f lanes (IsUnsettled (settled_of rows)) (HasHome l (row_in guards f) f bytes) (slice_index heap f)

-- these are the fields with a live store past the place up to which its lane is settled, by number: each takes an old value back
abbrev pub AreUndone : Layout → List GuardRow → List LaneRow → (lanes : ℕ → List UndoRecord) → List FieldId → Type 0
AreUndone l guards rows lanes fields = AreFields (λ f. (f < l.fields) × IsUndone (guard_in guards f) f lanes (settled_of rows)) fields

-- by field, the value before its first store of these steps that isn't settled, if it has one
abbrev pub AreOldValues : (fields : ℕ) → List LaneRow → List Step → List (Option ℕ) → Type 0
AreOldValues n rows steps before = (f : ℕ) → f < n → slice_index_or before f None ≡ first_old (settled_of rows) f (log_of steps)

-- by field, the old value, or where there is none that before this store, if it isn't settled
abbrev pub KeepsFirst : (old : List (Option ℕ)) → UndoRecord → (is_settled : Bool) → (new : List (Option ℕ)) → Type 0
KeepsFirst old r s new = (f : ℕ) → f < length old → slice_index_or new f None ≡ earlier (slice_index_or old f None) (if s then None else stored f r)

-- these are the fields with an old value, each once, in rising order
abbrev pub HaveOldValues : List (Option ℕ) → List FieldId → Type 0
HaveOldValues before fields = AreFields (λ f. (f < length before) × (slice_index_or before f None ≢ None)) fields

-- the field of this row has the old value, or where there is none that which it has at home
abbrev pub IsValueOf : Layout → GuardRow → (field : ℕ) → (old : Option ℕ) → List ℕ → ℕ → Type 0
IsValueOf l row f old image value = IsOldOrHome old (HasHome l row f image) value

-- so has each field, by these old values
abbrev pub AreValuesOf : Layout → List GuardRow → (before : List (Option ℕ)) → List ℕ → (heap : List ℕ) → Type 0
AreValuesOf l guards before image heap = (f : ℕ) → f < l.fields → IsValueOf l (row_in guards f) f (slice_index_or before f None) image (slice_index heap f)
