-- What an image stands for: the heap that recovery gives (this project's own; undo after Atlas).
use Rattle.std.specs.Prelude.{ℕ, ◌≡◌, ◌-◌, ◌<◌, ◌≤◌, ◌⊎◌, Bool, true, false, not, List, [], length, reverse, slice_index}
use Rattle.std.specs.List.{slice_index_or}
use Rattle.heap_model.specs.declared.record.Record.{Record}
use Rattle.heap_model.specs.declared.record.UndoRecord.{UndoRecord}
use Rattle.heap_model.specs.Setting.{Setting}
use Rattle.heap_model.specs.Log.{IsLegal}
use Rattle.heap_model.specs.Sections.{actions}
use Rattle.heap_model.specs.Cuts.{IsWhole, IsClosed}
use Rattle.heap_model.specs.KeptHeap.{kept_value}
use Rattle.heap_model.specs.Base.{records_since}
use Rattle.image_parts.specs.Rows.{empty_row}
use Rattle.image_parts.specs.Slots.{Shows}
use Rattle.image_parts.specs.Guards.{HasGuards, no_row}
use Rattle.image_parts.specs.Cells.{HasCell, HasHome}
use Rattle.image_parts.specs.declared.layout.Layout.{Layout}
use Rattle.image_parts.specs.declared.slot.Slot.{Slot}
use Rattle.image_parts.specs.declared.lane_row.LaneRow.{LaneRow}
use Rattle.image_parts.specs.declared.control.Control.{Control}
use Rattle.image_parts.specs.declared.guard_row.GuardRow.{GuardRow}
use Rattle.undo_log.specs.OldValues.{TakesBack, IsUnsettled}
use Rattle.undo_log.specs.Dropped.{undo_logs, records_in, IsDropped}
use Rattle.undo_log.specs.Area.{HasSpan}

-- the lane's row of these
abbrev pub row_of : List LaneRow → (lane : ℕ) → LaneRow
row_of rows lane = slice_index_or rows lane empty_row

-- how many of the lane's live records are settled
abbrev pub settled_of : List LaneRow → (lane : ℕ) → ℕ
settled_of rows lane = (row_of rows lane).settled - (row_of rows lane).start

-- the field's row of these
abbrev pub row_in : List GuardRow → (field : ℕ) → GuardRow
row_in guards f = slice_index_or guards f no_row

-- the field's guard, by these rows
abbrev pub guard_in : List GuardRow → (field : ℕ) → ℕ
guard_in guards f = (row_in guards f).guard.0

-- whether the field is transient, by these rows
abbrev pub is_transient_in : List GuardRow → (field : ℕ) → Bool
is_transient_in guards f = (row_in guards f).transient

-- the field's first value, by these rows
abbrev pub first_in : List GuardRow → (field : ℕ) → ℕ
first_in guards f = (row_in guards f).first

-- These guard rows are those of the setting: by field the guard, whether logs keep its stores, and the first value where
-- they don't.
pub record AreRowsOf (fields : ℕ) (guards : List GuardRow) (s : Setting) : Type 0 where
  pub guard : (f : ℕ) → f < fields → guard_in guards f ≡ s.guard f
  pub mark : (f : ℕ) → f < fields → is_transient_in guards f ≡ not (s.is_logged f)
  pub first : (f : ℕ) → f < fields → s.is_logged f ≡ false → first_in guards f ≡ s.first f

-- the lanes' live records, the newest first: those of the places from `start` up to `logged`
pub record HasLive (l : Layout) (image : List ℕ) (rows : List LaneRow) (lanes : ℕ → List UndoRecord) : Type 0 where
  pub live : (lane : ℕ) → lane < l.lanes → HasSpan l lane (row_of rows lane).start (row_of rows lane).logged image (reverse (lanes lane))
  pub others : (lane : ℕ) → l.lanes ≤ lane → lanes lane ≡ []

-- The image stands for this heap: by the control that it shows, each field takes back the value before its first live
-- store past `settled`, or has the value that it has at home.
pub record StandsFor (l : Layout) (image heap : List ℕ) : Type 0 where
  pub slot : Slot
  pub control : Control
  pub shows : Shows l image slot control
  pub guards : List GuardRow
  pub guarded : HasGuards l image guards
  pub lanes : ℕ → List UndoRecord
  pub live : HasLive l image control.rows lanes
  pub size : length heap ≡ l.fields
  pub takes : (f : ℕ) → f < l.fields → TakesBack (guard_in guards f) f lanes (IsUnsettled (settled_of control.rows)) (HasHome l (row_in guards f) f image) (slice_index heap f)

-- An image stands for one heap.
abbrev pub OneHeapLaw : Type 0
OneHeapLaw = (l : Layout) (image a b : List ℕ) → StandsFor l image a → StandsFor l image b → a ≡ b

-- The image shows this cut of the log, of which the base was trimmed: a lane's live records are those since, `settled` is
-- past the cut's, and the home cell of a logged field holds the kept value, or anything where a store to it was dropped.
pub record ShowsCut (l : Layout) (s : Setting) (log : List (ℕ × Record)) (base cut : ℕ → ℕ) (image : List ℕ) : Type 0 where
  pub slot : Slot
  pub control : Control
  pub shows : Shows l image slot control
  pub guards : List GuardRow
  pub guarded : HasGuards l image guards
  pub rows : AreRowsOf l.fields guards s
  pub live : HasLive l image control.rows (undo_logs (records_since base log))
  pub settled : (lane : ℕ) → lane < l.lanes → settled_of control.rows lane ≡ records_in (cut lane - base lane) (undo_logs (records_since base log) lane)
  pub homes : (f : ℕ) → f < l.fields → s.is_logged f ≡ true → IsDropped (s.guard f) f log cut ⊎ HasCell l f image (kept_value s.first cut f log)

-- An image that shows a cut stands for the heap that the cut keeps.
abbrev pub ImageStandsLaw : Type 0
ImageStandsLaw = (l : Layout) (s : Setting) (log : List (ℕ × Record)) (base cut : ℕ → ℕ) (image heap : List ℕ) →
    IsLegal s log → IsWhole (actions log) base → IsClosed (actions log) cut → ((lane : ℕ) → base lane ≤ cut lane) → ShowsCut l s log base cut image →
    length heap ≡ l.fields → ((f : ℕ) → f < l.fields → slice_index heap f ≡ kept_value s.first cut f log) → StandsFor l image heap
