-- A round of two syncs, as its device sees it: cells that lag behind and new records are written, and then one gate turns (this project's
-- own). Of a lane's records the undo logs have the newest first.
use Rattle.std.specs.Prelude.{ℕ, ◌≡◌, ◌⊎◌, ◌+◌, ◌<◌, ◌≤◌, true, false, All, Contains, List, [], ◌++◌, length, map, reverse}
use Rattle.heap_model.specs.declared.record.Record.{Record}
use Rattle.heap_model.specs.declared.record.UndoRecord.{UndoRecord}
use Rattle.heap_model.specs.Setting.{Setting}
use Rattle.block_disk.specs.Device.{Device, Range}
use Rattle.block_disk.specs.Images.{Always}
use Rattle.image_parts.specs.Cells.{HasCell, cell_range}
use Rattle.image_parts.specs.Control.{AreRows}
use Rattle.image_parts.specs.Layout.{IsLayout, size_of}
use Rattle.image_parts.specs.Rows.{IsRow}
use Rattle.image_parts.specs.declared.lane_row.LaneRow.{LaneRow}
use Rattle.image_parts.specs.declared.layout.Layout.{Layout}
use Rattle.undo_log.specs.Dropped.{undo_logs}
use Rattle.undo_log.specs.StandsFor.{row_of}
use Rattle.heap_model.specs.Past.{has_store}
use Rattle.store_image.specs.NewRecords.{FitsLane, fresh_ranges}
use Rattle.store_image.specs.Promises.{IsSteadyAt}
use Rattle.store_image.specs.declared.committed.Committed.{Committed}
use Rattle.store_helper_sections.specs.Image.{HasHeap, IsUnsettled}
use Rattle.store_round_image.specs.declared.cells.HomeValue.{HomeValue}

-- Each image that a crash may leave shows the setting's first heap, with these live records, by the control that counts.
pub record IsHeapOn (l : Layout) (s : Setting) (records : List (ℕ × Record)) (c : Committed) (d : Device) : Type 0 where
  pub limits : IsLayout l
  pub room : size_of l ≤ length d.now.bytes
  pub unsettled : IsUnsettled l c.rows
  pub steady : IsSteadyAt l d c
  pub parts : Always d (HasHeap l s records c.rows)

-- the bytes of these cells
abbrev pub cell_ranges : Layout → List HomeValue → List Range
cell_ranges l cells = map (λ c. cell_range l c.field.0) cells

-- the fields whose cells these are
abbrev pub fields_of : List HomeValue → List ℕ
fields_of cells = map (λ c. c.field.0) cells

-- the bytes of these cells, and those of the lanes' new records
abbrev pub written_ranges : Layout → List HomeValue → (from : List LaneRow) → (fresh : ℕ → List UndoRecord) → List Range
written_ranges l cells from fresh = cell_ranges l cells ++ fresh_ranges l from fresh l.lanes

-- each is a cell of the image, and gets the value that the field has in the heap
pub record IsValueIn (l : Layout) (heap : ℕ → ℕ) (c : HomeValue) : Type 0 where
  pub field : c.field.0 < l.fields
  pub value : c.value ≡ heap c.field.0

-- Of the lane's live records the first ones are given up, and the others stay; new ones are written behind them, where none of the old ones
-- lies. `from` is the lane's row as the writing of the new ones takes it: they begin at its `logged`.
pub record GoesOnIn (l : Layout) (old : LaneRow) (records : List UndoRecord) (from : LaneRow) (fresh : List UndoRecord) (new : LaneRow) (later : List UndoRecord) : Type 0 where
  pub given : List UndoRecord
  pub stay : List UndoRecord
  pub were : reverse records ≡ given ++ stay
  pub are : reverse later ≡ stay ++ fresh
  pub begins : (stay ≡ []) ⊎ (new.start ≡ old.start + length given)
  pub behind : from.logged ≡ new.start + length stay
  pub ends : new.logged ≡ from.logged + length fresh
  pub row : IsRow l.capacity from
  pub fits : FitsLane l from fresh
  pub start : from.start ≤ old.start
  pub past : old.logged ≤ from.logged

-- What a round needs that leads from one heap and live records to another heap and later records. Each cell that it writes is of a field to
-- which a live record of the old ones stores. Each other field to which none of the later records stores has its new value at home.
pub record MayTurn (l : Layout) (s : Setting) (records : List (ℕ × Record)) (heap : ℕ → ℕ) (later : List (ℕ × Record)) (c : Committed) (d : Device)
    (cells : List HomeValue) (from : List LaneRow) (fresh : ℕ → List UndoRecord) (rows : List LaneRow) : Type 0 where
  pub holds : IsHeapOn l s records c d
  pub transient : (f : ℕ) → f < l.fields → s.is_logged f ≡ false → heap f ≡ s.first f
  pub values : All (IsValueIn l heap) cells
  pub covered : (f : ℕ) → Contains (fields_of cells) f → has_store f records ≡ true
  pub homes : (f : ℕ) → f < l.fields → s.is_logged f ≡ true → (has_store f later ≡ true) ⊎ Contains (fields_of cells) f ⊎ HasCell l f d.now.bytes (heap f)
  pub lanes : (lane : ℕ) → lane < l.lanes → GoesOnIn l (row_of c.rows lane) (undo_logs records lane) (row_of from lane) (fresh lane) (row_of rows lane) (undo_logs later lane)
  pub others : (lane : ℕ) → l.lanes ≤ lane → undo_logs later lane ≡ []
  pub rows_fit : AreRows l rows
  pub unsettled : IsUnsettled l rows

-- So it is for some heaps and records: what a call can ask for.
abbrev pub CanTurn : Layout → Committed → Device → List HomeValue → (from : List LaneRow) → (fresh : ℕ → List UndoRecord) → (rows : List LaneRow) → Type 0
CanTurn l c d cells from fresh rows =
    (s : Setting) × (records : List (ℕ × Record)) × (heap : ℕ → ℕ) × (later : List (ℕ × Record)) × MayTurn l s records heap later c d cells from fresh rows
