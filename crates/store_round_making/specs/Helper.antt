-- How a section of the helper's is made (this project's own).
use Rattle.std.specs.Prelude.{ℕ, ◌≡◌, ◌-◌, ◌≤◌, List, map, reverse, Option, Some, None}
use Rattle.heap_model.specs.declared.ids.ObjectId.{ObjectId}
use Rattle.heap_model.specs.declared.record.UndoRecord.{UndoRecord}
use Rattle.heap_model.specs.Record.{undo_of}
use Rattle.store_helper_sections.specs.HelperSections.{HelperSection, section_records}
use Rattle.store_round_image.specs.declared.cells.HomeValue.{HomeValue}

-- the number just before the one at which a record takes the guard first, where one does; else 0
abbrev pub number_before : (first : Option ℕ) → ℕ
number_before None = 0
number_before (Some n) = n - 1

-- some record takes it at a number that has one before it
abbrev pub HasBefore : (first : Option ℕ) → Type 0
HasBefore None = Unit {0}
HasBefore (Some n) = 1 ≤ n

-- the section that stores to these fields
abbrev pub section_of : ObjectId → (first : Option ℕ) → List HomeValue → HelperSection
section_of guard first cells = record { guard = guard; number = number_before first; fields = reverse (map (λ c. c.field) cells) }

-- its records, the oldest first, where the fields have these values in the heap
abbrev pub records_of : (heap : ℕ → ℕ) → HelperSection → List UndoRecord
records_of heap x = reverse (map undo_of (section_records heap x))

-- the cell gets the value that its field has in the heap
abbrev pub HasValueIn : (heap : ℕ → ℕ) → HomeValue → Type 0
HasValueIn heap c = c.value ≡ heap c.field.0
