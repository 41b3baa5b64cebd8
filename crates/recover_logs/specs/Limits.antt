-- The limits of what a record names (this project's own).
use Rattle.std.specs.Prelude.{ℕ, ◌<◌, ◌-◌, ◌^◌, Option, Some, None}
use Rattle.heap_model.specs.declared.ids.ObjectId.{ObjectId}
use Rattle.heap_model.specs.declared.record.UndoRecord.{UndoRecord}
use Rattle.heap_model.specs.declared.record.UndoRecord.TheVariants.{Acq, Rel, WaitRel, Put}

-- its object, its field and its number are within the limits of every heap; the value before a store is any word
abbrev pub IsInRange : UndoRecord → Type 0
IsInRange (Acq object number) = (object.0 < 4096) × (number < 2 ^ 40 - 1)
IsInRange (Rel object number) = (object.0 < 4096) × (number < 2 ^ 40 - 1)
IsInRange (WaitRel object number) = (object.0 < 4096) × (number < 2 ^ 40 - 1)
IsInRange (Put field before) = (field.0 < 16384) × (before < 2 ^ 64)

-- the object, where there is one, comes before this one
abbrev pub IsBelow : Option ObjectId → (objects : ℕ) → Type 0
IsBelow None objects = Unit {0}
IsBelow (Some o) objects = o.0 < objects

-- The record names no object from this one on, nor a field that one from there on guards. By field, `guard` has the object whose
-- monitor its stores need, and none where logs keep no store of it.
abbrev pub IsOfObjects : (guard : ℕ → Option ObjectId) → (objects : ℕ) → UndoRecord → Type 0
IsOfObjects guard objects (Acq o n) = o.0 < objects
IsOfObjects guard objects (Rel o n) = o.0 < objects
IsOfObjects guard objects (WaitRel o n) = o.0 < objects
IsOfObjects guard objects (Put f before) = IsBelow (guard f.0) objects
