-- A round of two syncs, in the words of the threads' log: it acknowledges a cut of all that was applied (this project's own). Lists of
-- records have the newest first, the undo records that are to be written the oldest.
use Rattle.std.specs.Prelude.{ℕ, ◌≡◌, ◌⊎◌, ◌+◌, ◌<◌, ◌≤◌, true, All, Contains, List, [], ◌++◌, length, reverse, slice_index}
use Rattle.heap_model.specs.declared.cut.Cut.{Cut}
use Rattle.heap_model.specs.declared.record.Record.{Record}
use Rattle.heap_model.specs.declared.record.UndoRecord.{UndoRecord}
use Rattle.heap_model.specs.Base.{records_since}
use Rattle.heap_model.specs.Cuts.{IsClosed, IsWhole, counts_of}
use Rattle.heap_model.specs.Log.{IsLegal, IsOfLanes}
use Rattle.heap_model.specs.Sections.{actions}
use Rattle.heap_model.specs.Setting.{Setting}
use Rattle.block_disk.specs.Device.{Device}
use Rattle.image_parts.specs.Cells.{HasCell}
use Rattle.image_parts.specs.declared.lane_row.LaneRow.{LaneRow}
use Rattle.image_parts.specs.declared.layout.Layout.{Layout}
use Rattle.undo_log.specs.Dropped.{records_in, undo_logs}
use Rattle.undo_log.specs.StandsFor.{row_of}
use Rattle.heap_model.specs.Past.{has_store}
use Rattle.store_image.specs.NewRecords.{FitsLane}
use Rattle.store_image.specs.declared.committed.Committed.{Committed}
use Rattle.store_helper_sections.specs.Going.{from_heap}
use Rattle.store_helper_sections.specs.HelperSections.{ArePreceding, HelperSection, helper_log}
use Rattle.store_helper_sections.specs.Image.{IsRoundOf, kept_by, round_records}
use Rattle.store_round_image.specs.Turning.{IsHeapOn, IsValueIn, fields_of}
use Rattle.store_round_image.specs.declared.cells.HomeValue.{HomeValue}

-- The rows of the threads' t lanes tell of this log and its acknowledged cut: a lane's live records begin behind the cut's. No row counts
-- anything else as kept, the helper's neither.
pub record TellsRound (l : Layout) (t : ℕ) (log : List (ℕ × Record)) (cut : ℕ → ℕ) (rows : List LaneRow) : Type 0 where
  pub start : (lane : ℕ) → lane < t → (row_of rows lane).start ≡ records_in (cut lane) (undo_logs log lane)
  pub logged : (lane : ℕ) → lane < t → (row_of rows lane).logged ≡ length (undo_logs log lane)
  pub kept : (lane : ℕ) → lane < l.lanes → (row_of rows lane).kept ≡ cut lane

-- Between rounds of two syncs: the device shows the heap that this cut of the log keeps, with these sections of the helper's.
pub record IsRoundOn (l : Layout) (t : ℕ) (s : Setting) (log : List (ℕ × Record)) (cut : ℕ → ℕ) (sections : List HelperSection) (c : Committed) (d : Device) : Type 0 where
  pub round : IsRoundOf l t s log cut sections
  pub tells : TellsRound l t log cut c.rows
  pub heap : IsHeapOn l (from_heap s (kept_by s log cut)) (round_records t s log cut sections) c d

-- What a round needs that takes these newer records on and acknowledges this cut, with these sections of the helper's: `fresh` has the
-- threads' newer records, and `helper` those of the sections; `places` has, by lane, the place after the cut's. The cells that it writes are of fields to which
-- a live record of the last round stores. Each other field to which no live record of this one stores has its kept value at home. After the
-- threads' t lanes the image has the helper's, or none, and then there are no sections.
pub record MayMake (l : Layout) (t : ℕ) (s : Setting) (log : List (ℕ × Record)) (cut : ℕ → ℕ) (sections : List HelperSection) (newer : List (ℕ × Record)) (later : List HelperSection)
    (c : Committed) (d : Device) (next : Cut) (places : List ℕ) (cells : List HomeValue) (fresh : ℕ → List UndoRecord) (helper : List UndoRecord) : Type 0 where
  pub on : IsRoundOn l t s log cut sections c d
  pub all_lanes : l.lanes ≤ t + 1
  pub helper_lane : (later ≡ []) ⊎ (t < l.lanes)
  pub legal : IsLegal s (newer ++ log)
  pub lanes : IsOfLanes t (newer ++ log)
  pub whole : IsWhole (actions (newer ++ log)) (counts_of next)
  pub closed : IsClosed (actions (newer ++ log)) (counts_of next)
  pub more : (lane : ℕ) → cut lane ≤ counts_of next lane
  pub preceding : ArePreceding s (records_since (counts_of next) (newer ++ log)) later
  pub behind : (lane : ℕ) → lane < t → slice_index places lane ≡ records_in (counts_of next lane) (undo_logs (newer ++ log) lane)
  pub records : (lane : ℕ) → lane < t → fresh lane ≡ reverse (undo_logs newer lane)
  pub fits : (lane : ℕ) → lane < t → FitsLane l (row_of c.rows lane) (fresh lane)
  pub helper_are : helper ≡ reverse (undo_logs (helper_log t (kept_by s (newer ++ log) (counts_of next)) later) t)
  pub helper_fits : t < l.lanes → FitsLane l (row_of c.rows t) helper
  pub values : All (IsValueIn l (kept_by s (newer ++ log) (counts_of next))) cells
  pub covered : (f : ℕ) → Contains (fields_of cells) f → has_store f (round_records t s log cut sections) ≡ true
  pub homes : (f : ℕ) → f < l.fields → s.is_logged f ≡ true →
      (has_store f (round_records t s (newer ++ log) (counts_of next) later) ≡ true) ⊎ Contains (fields_of cells) f ⊎ HasCell l f d.now.bytes (kept_by s (newer ++ log) (counts_of next) f)

-- So it is for some logs and sections: what a call can ask for.
abbrev pub CanMake : Layout → (t : ℕ) → Committed → Device → Cut → (places : List ℕ) → List HomeValue → (fresh : ℕ → List UndoRecord) → (helper : List UndoRecord) → Type 0
CanMake l t c d next places cells fresh helper =
    (s : Setting) × (log : List (ℕ × Record)) × (cut : ℕ → ℕ) × (sections : List HelperSection) × (newer : List (ℕ × Record)) × (later : List HelperSection)
    × MayMake l t s log cut sections newer later c d next places cells fresh helper
