-- What the records of the helper's sections are, for each log and cut whose changed fields they store to (this project's own).
use Rattle.std.specs.Prelude.{ℕ, ◌≡◌, ◌-◌, ◌<◌, ◌≤◌, ◌^◌, ◌↔◌, true, All, Contains, List, ◌++◌, reverse}
use Rattle.std.specs.List.{slice_index_or}
use Rattle.heap_model.specs.declared.ids.ObjectId.{ObjectId}
use Rattle.heap_model.specs.declared.record.Record.{Record}
use Rattle.heap_model.specs.declared.record.UndoRecord.{UndoRecord}
use Rattle.heap_model.specs.Base.{records_since, records_until}
use Rattle.heap_model.specs.Cuts.{IsClosed, IsWhole}
use Rattle.heap_model.specs.Log.{IsLegal}
use Rattle.heap_model.specs.Sections.{actions}
use Rattle.heap_model.specs.Setting.{Setting}
use Rattle.image_parts.specs.Layout.{IsLayout}
use Rattle.image_parts.specs.declared.layout.Layout.{Layout}
use Rattle.undo_log.specs.Area.{IsLoggable}
use Rattle.undo_log.specs.Dropped.{undo_logs}
use Rattle.heap_model.specs.Past.{has_store}
use Rattle.store_helper_sections.specs.HelperSections.{ArePreceding, first_taken, helper_log}
use Rattle.store_helper_sections.specs.Image.{kept_by}
use Rattle.store_round_image.specs.Turning.{fields_of}
use Rattle.store_round_image.specs.declared.cells.HomeValue.{HomeValue}
use Rattle.store_round_sections.specs.Sections.{first_in, no_object, sections_of}

-- the field is one that logs keep stores of, the cut keeps a store to it, and this is the value that it keeps
pub record IsKept (s : Setting) (log : List (ℕ × Record)) (next : ℕ → ℕ) (c : HomeValue) : Type 0 where
  pub field : c.field.0 < s.fields
  pub logged : s.is_logged c.field.0 ≡ true
  pub value : c.value ≡ kept_by s log next c.field.0
  pub stored : has_store c.field.0 (records_until next log) ≡ true

-- A whole closed cut of a legal log keeps each of these values. The guards are the setting's, and `first` tells of each object at which
-- number it is taken first beyond the cut.
pub record AreChanges (s : Setting) (log : List (ℕ × Record)) (next : ℕ → ℕ) (guards : List ObjectId) (first : List ℕ) (changed : List HomeValue) : Type 0 where
  pub legal : IsLegal s log
  pub whole : IsWhole (actions log) next
  pub closed : IsClosed (actions log) next
  pub guarded : (f : ℕ) → f < s.fields → (slice_index_or guards f no_object).0 ≡ s.guard f
  pub taken : (o : ℕ) → o < s.objects → first_in first o ≡ first_taken o (records_since next log)
  pub each : All (IsKept s log next) changed

module _ (guards : List ObjectId) (first : List ℕ) (changed : List HomeValue) where
  -- the records of the sections, in the lane t, the oldest first
  abbrev pub section_undo : Setting → (log : List (ℕ × Record)) → (next : ℕ → ℕ) → (t : ℕ) → List UndoRecord
  section_undo s log next t = reverse (undo_logs (helper_log t (kept_by s log next) (sections_of guards first changed)) t)

  -- The sections may come before what the cut doesn't keep, their records are added, and these store to the changed fields and no others.
  pub record AreAdded (s : Setting) (log : List (ℕ × Record)) (next : ℕ → ℕ) (t : ℕ) (old new : List UndoRecord) : Type 0 where
    pub preceding : ArePreceding s (records_since next log) (sections_of guards first changed)
    pub records : new ≡ old ++ section_undo s log next t
    pub stores : (f : ℕ) → Contains (fields_of changed) f ↔ (has_store f (helper_log t (kept_by s log next) (sections_of guards first changed)) ≡ true)

  -- so it is for each log and cut that keeps the changed fields' values, and each lane
  abbrev pub AddsSections : (old new : List UndoRecord) → Type 0
  AddsSections old new = (s : Setting) (log : List (ℕ × Record)) (next : ℕ → ℕ) (t : ℕ) → AreChanges s log next guards first changed → AreAdded s log next t old new

  -- and each of the records is one that a lane may have of an image with the setting's objects and fields, where no number is past the limit
  abbrev pub AddsLoggable : Type 0
  AddsLoggable = (l : Layout) (s : Setting) (log : List (ℕ × Record)) (next : ℕ → ℕ) (t : ℕ) → IsLayout l → l.objects ≡ s.objects → l.fields ≡ s.fields → s.last ≤ 2 ^ 40 - 1 →
      AreChanges s log next guards first changed → All (IsLoggable l) (section_undo s log next t)
