-- The image over a round of two syncs (this project's own): its cells needn't have the kept values yet, where records in its lanes do.
use Rattle.std.specs.Prelude.{ℕ, ◌≡◌, ◌<◌, ◌≤◌, ◌⊎◌, true, List, [], ◌++◌, length}
use Rattle.heap_model.specs.declared.record.Record.{Record}
use Rattle.heap_model.specs.Base.{records_since}
use Rattle.heap_model.specs.Cuts.{IsClosed, IsWhole}
use Rattle.heap_model.specs.KeptHeap.{kept_value}
use Rattle.heap_model.specs.Log.{IsLegal, IsOfLanes}
use Rattle.heap_model.specs.Sections.{actions}
use Rattle.heap_model.specs.Setting.{Setting}
use Rattle.image_parts.specs.Cells.{HasCell}
use Rattle.image_parts.specs.Guards.{HasGuards}
use Rattle.image_parts.specs.Header.{HasHeader}
use Rattle.image_parts.specs.Layout.{size_of}
use Rattle.image_parts.specs.Slots.{Shows}
use Rattle.image_parts.specs.declared.control.Control.{Control}
use Rattle.image_parts.specs.declared.guard_row.GuardRow.{GuardRow}
use Rattle.image_parts.specs.declared.lane_row.LaneRow.{LaneRow}
use Rattle.image_parts.specs.declared.layout.Layout.{Layout}
use Rattle.image_parts.specs.declared.slot.Slot.{Slot}
use Rattle.undo_log.specs.Dropped.{undo_logs}
use Rattle.undo_log.specs.StandsFor.{AreRowsOf, HasLive, row_of}
use Rattle.heap_model.specs.Past.{has_store}
use Rattle.store_helper_sections.specs.Going.{from_heap}
use Rattle.store_helper_sections.specs.HelperSections.{ArePreceding, HelperSection, helper_log}

-- The image has all of the setting's first heap but for the control: header and guard rows; by these rows of a control the records as the
-- lanes' live ones; and in the home cell of each field that logs keep stores of the heap's value, or anything where one of the records is a
-- store to it.
pub record HasHeap (l : Layout) (s : Setting) (records : List (ℕ × Record)) (rows : List LaneRow) (image : List ℕ) : Type 0 where
  pub room : size_of l ≤ length image
  pub header : HasHeader image l
  pub guards : List GuardRow
  pub guarded : HasGuards l image guards
  pub rows_of : AreRowsOf l.fields guards s
  pub live : HasLive l image rows (undo_logs records)
  pub homes : (f : ℕ) → f < l.fields → s.is_logged f ≡ true → (has_store f records ≡ true) ⊎ HasCell l f image (s.first f)

-- by these rows no live record is acknowledged
abbrev pub IsUnsettled : Layout → List LaneRow → Type 0
IsUnsettled l rows = (lane : ℕ) → lane < l.lanes → (row_of rows lane).settled ≡ (row_of rows lane).start

-- The image shows the setting's first heap, with these live records, none of them acknowledged.
pub record ShowsHeap (l : Layout) (s : Setting) (records : List (ℕ × Record)) (image : List ℕ) : Type 0 where
  pub slot : Slot
  pub control : Control
  pub shows : Shows l image slot control
  -- of version 2, since recovery doesn't take the older one
  pub current : control.version ≡ 2
  pub unsettled : IsUnsettled l control.rows
  pub parts : HasHeap l s records control.rows image

-- the heap that the cut keeps, by field
abbrev pub kept_by : Setting → (log : List (ℕ × Record)) → (cut : ℕ → ℕ) → ℕ → ℕ
kept_by s log cut f = kept_value s.first cut f log

-- the live records over a round of two syncs: the helper's sections over the kept heap, in the lane behind the threads' t ones, and then what of
-- the threads' isn't kept
abbrev pub round_records : (t : ℕ) → Setting → (log : List (ℕ × Record)) → (cut : ℕ → ℕ) → List HelperSection → List (ℕ × Record)
round_records t s log cut sections = records_since cut log ++ helper_log t (kept_by s log cut) sections

-- The image shows this cut of the threads' log by a round of two syncs: the heap that the cut keeps, these sections of the helper's, and
-- the cut's count for each lane. It counts nothing of the helper's.
pub record ShowsRound (l : Layout) (t : ℕ) (s : Setting) (log : List (ℕ × Record)) (cut : ℕ → ℕ) (sections : List HelperSection) (image : List ℕ) : Type 0 where
  pub heap : ShowsHeap l (from_heap s (kept_by s log cut)) (round_records t s log cut sections) image
  pub kept : (lane : ℕ) → lane < l.lanes → (row_of heap.control.rows lane).kept ≡ cut lane

-- The cut of a legal log is whole and closed, the log is of the threads' t lanes, and the helper's sections may come before what isn't kept.
-- An image with no lane behind the threads' has no such sections.
pub record IsRoundOf (l : Layout) (t : ℕ) (s : Setting) (log : List (ℕ × Record)) (cut : ℕ → ℕ) (sections : List HelperSection) : Type 0 where
  pub legal : IsLegal s log
  pub whole : IsWhole (actions log) cut
  pub closed : IsClosed (actions log) cut
  pub lanes : IsOfLanes t log
  pub within : t ≤ l.lanes
  pub helper : (sections ≡ []) ⊎ (t < l.lanes)
  pub preceding : ArePreceding s (records_since cut log) sections

-- The image shows a whole closed cut, this one or a later one, of a beginning of this log, by a round of two syncs.
pub record ShowsCutOf (l : Layout) (t : ℕ) (s : Setting) (log : List (ℕ × Record)) (cut : ℕ → ℕ) (image : List ℕ) : Type 0 where
  pub later : List (ℕ × Record)
  pub shown : List (ℕ × Record)
  pub parts : log ≡ later ++ shown
  pub kept : ℕ → ℕ
  pub more : (lane : ℕ) → cut lane ≤ kept lane
  pub sections : List HelperSection
  pub round : IsRoundOf l t s shown kept sections
  pub shows : ShowsRound l t s shown kept sections image
