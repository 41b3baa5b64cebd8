-- What a round owes of the cells that it doesn't write, said of what changes; and rounds that only log, or only acknowledge (this project's own).
use Rattle.std.specs.Prelude.{ℕ, ◌≡◌, ◌⊎◌, ◌+◌, ◌<◌, ◌≤◌, true, All, Contains, List, [], ◌++◌, reverse, slice_index}
use Rattle.heap_model.specs.declared.cut.Cut.{Cut}
use Rattle.heap_model.specs.declared.record.Record.{Record}
use Rattle.heap_model.specs.declared.record.UndoRecord.{UndoRecord}
use Rattle.heap_model.specs.Base.{records_since}
use Rattle.heap_model.specs.Cuts.{IsClosed, IsWhole, counts_of}
use Rattle.heap_model.specs.Log.{IsLegal, IsOfLanes}
use Rattle.heap_model.specs.Sections.{actions}
use Rattle.heap_model.specs.Setting.{Setting}
use Rattle.block_disk.specs.Device.{Device}
use Rattle.image_parts.specs.Cells.{HasCell}
use Rattle.image_parts.specs.declared.layout.Layout.{Layout}
use Rattle.undo_log.specs.Dropped.{records_in, undo_logs}
use Rattle.undo_log.specs.StandsFor.{row_of}
use Rattle.heap_model.specs.Past.{has_store}
use Rattle.store_image.specs.NewRecords.{FitsLane}
use Rattle.store_image.specs.declared.committed.Committed.{Committed}
use Rattle.store_helper_sections.specs.HelperSections.{HelperSection, helper_log}
use Rattle.store_helper_sections.specs.Image.{kept_by, round_records}
use Rattle.store_round_image.specs.Turning.{IsValueIn, fields_of}
use Rattle.store_round_image.specs.declared.cells.HomeValue.{HomeValue}
use Rattle.store_round_making.specs.Rounds.{IsRoundOn, MayMake}

-- one of these records stores to the field, or one of these cells is its
abbrev pub IsCovered : (records : List (ℕ × Record)) → (cells : List HomeValue) → (field : ℕ) → Type 0
IsCovered records cells f = (has_store f records ≡ true) ⊎ Contains (fields_of cells) f

-- A round leaves no cell that lacks what it keeps, where it covers each field to which a section of the last round stores, or a record beyond
-- the last round's cut.
abbrev pub HomesLaw : Type 0
HomesLaw = (l : Layout) (t : ℕ) (s : Setting) (log : List (ℕ × Record)) (cut : ℕ → ℕ) (sections : List HelperSection) (newer : List (ℕ × Record)) (later : List HelperSection)
    (c : Committed) (d : Device) (next : ℕ → ℕ) (cells : List HomeValue) →
    IsRoundOn l t s log cut sections c d → IsLegal s (newer ++ log) → ((lane : ℕ) → cut lane ≤ next lane) →
    (pending : (f : ℕ) → has_store f (helper_log t (kept_by s log cut) sections) ≡ true → IsCovered (round_records t s (newer ++ log) next later) cells f) →
    (changed : (f : ℕ) → has_store f (records_since cut (newer ++ log)) ≡ true → IsCovered (round_records t s (newer ++ log) next later) cells f) →
    (f : ℕ) → f < l.fields → s.is_logged f ≡ true →
    (has_store f (round_records t s (newer ++ log) next later) ≡ true) ⊎ Contains (fields_of cells) f ⊎ HasCell l f d.now.bytes (kept_by s (newer ++ log) next f)

-- What a round needs that takes these newer records on, acknowledges nothing and has no sections: it covers each field to which a section of
-- the last round stores, by a record beyond the cut or by its cell.
pub record MayLog (l : Layout) (t : ℕ) (s : Setting) (log : List (ℕ × Record)) (cut : ℕ → ℕ) (sections : List HelperSection) (newer : List (ℕ × Record))
    (c : Committed) (d : Device) (next : Cut) (places : List ℕ) (cells : List HomeValue) (fresh : ℕ → List UndoRecord) : Type 0 where
  pub on : IsRoundOn l t s log cut sections c d
  pub all_lanes : l.lanes ≤ t + 1
  pub legal : IsLegal s (newer ++ log)
  pub lanes : IsOfLanes t (newer ++ log)
  pub same : (lane : ℕ) → counts_of next lane ≡ cut lane
  pub behind : (lane : ℕ) → lane < t → slice_index places lane ≡ records_in (cut lane) (undo_logs log lane)
  pub records : (lane : ℕ) → lane < t → fresh lane ≡ reverse (undo_logs newer lane)
  pub fits : (lane : ℕ) → lane < t → FitsLane l (row_of c.rows lane) (fresh lane)
  pub values : All (IsValueIn l (kept_by s log cut)) cells
  pub covered : (f : ℕ) → Contains (fields_of cells) f → has_store f (round_records t s log cut sections) ≡ true
  pub pending : (f : ℕ) → has_store f (helper_log t (kept_by s log cut) sections) ≡ true → IsCovered (newer ++ records_since cut log) cells f

abbrev pub LogTurnLaw : Type 0
LogTurnLaw = (l : Layout) (t : ℕ) (s : Setting) (log : List (ℕ × Record)) (cut : ℕ → ℕ) (sections : List HelperSection) (newer : List (ℕ × Record))
    (c : Committed) (d : Device) (next : Cut) (places : List ℕ) (cells : List HomeValue) (fresh : ℕ → List UndoRecord) →
    MayLog l t s log cut sections newer c d next places cells fresh → MayMake l t s log cut sections newer [] c d next places cells fresh []

-- What a round needs that takes no newer records on and acknowledges this cut, where the last round had no sections and it has none: it writes
-- the cell of each field to which a live record stores that the cut keeps, or a later record stores to it.
pub record MayAcknowledge (l : Layout) (t : ℕ) (s : Setting) (log : List (ℕ × Record)) (cut : ℕ → ℕ)
    (c : Committed) (d : Device) (next : Cut) (places : List ℕ) (cells : List HomeValue) (fresh : ℕ → List UndoRecord) : Type 0 where
  pub on : IsRoundOn l t s log cut [] c d
  pub all_lanes : l.lanes ≤ t + 1
  pub whole : IsWhole (actions log) (counts_of next)
  pub closed : IsClosed (actions log) (counts_of next)
  pub more : (lane : ℕ) → cut lane ≤ counts_of next lane
  pub behind : (lane : ℕ) → lane < t → slice_index places lane ≡ records_in (counts_of next lane) (undo_logs log lane)
  pub none : (lane : ℕ) → lane < t → fresh lane ≡ []
  pub values : All (IsValueIn l (kept_by s log (counts_of next))) cells
  pub covered : (f : ℕ) → Contains (fields_of cells) f → has_store f (records_since cut log) ≡ true
  pub changed : (f : ℕ) → has_store f (records_since cut log) ≡ true → IsCovered (records_since (counts_of next) log) cells f

abbrev pub AcknowledgeTurnLaw : Type 0
AcknowledgeTurnLaw = (l : Layout) (t : ℕ) (s : Setting) (log : List (ℕ × Record)) (cut : ℕ → ℕ)
    (c : Committed) (d : Device) (next : Cut) (places : List ℕ) (cells : List HomeValue) (fresh : ℕ → List UndoRecord) →
    MayAcknowledge l t s log cut c d next places cells fresh → MayMake l t s log cut [] [] [] c d next places cells fresh []
