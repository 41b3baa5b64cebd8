-- The lanes' new records, and the places that they take behind the logged ones (this project's own). Lists of a lane's new
-- records have the oldest first.
use Rattle.std.specs.Prelude.{ℕ, zero, suc, ◌+◌, ◌-◌, ◌<◌, ◌≤◌, ◌^◌, List, [], ◌++◌, length, All}
use Rattle.heap_model.specs.declared.record.UndoRecord.{UndoRecord}
use Rattle.block_disk.specs.Device.{Range, SameOutside}
use Rattle.image_parts.specs.declared.lane_row.LaneRow.{LaneRow}
use Rattle.image_parts.specs.declared.layout.Layout.{Layout}
use Rattle.undo_log.specs.Area.{IsLoggable, HasRecords, record_ranges}
use Rattle.undo_log.specs.StandsFor.{row_of}

-- the sum of what the lanes below n have
abbrev pub sum_below : (ℕ → ℕ) → ℕ → ℕ
sum_below size zero = 0
sum_below size (suc n) = sum_below size n + size n

-- how many new records the lanes below n have
abbrev pub fresh_count : (ℕ → List UndoRecord) → ℕ → ℕ
fresh_count fresh n = sum_below (λ lane. length (fresh lane)) n

-- the lane may have these records, and its area has room for them beside the live ones
pub record FitsLane (l : Layout) (row : LaneRow) (records : List UndoRecord) : Type 0 where
  pub loggable : All (IsLoggable l) records
  pub room : row.logged - row.start + length records ≤ l.capacity
  pub limit : row.logged + length records ≤ 2 ^ 63

-- the bytes of the new records of the lanes below n
abbrev pub fresh_ranges : Layout → List LaneRow → (ℕ → List UndoRecord) → ℕ → List Range
fresh_ranges l rows fresh zero = []
fresh_ranges l rows fresh (suc n) = record_ranges l n (row_of rows n).logged (length (fresh n)) ++ fresh_ranges l rows fresh n

-- the new records of the lanes below n stand behind the logged ones, and nothing but the lanes' spare places has changed
pub record HasFresh (l : Layout) (rows : List LaneRow) (fresh : ℕ → List UndoRecord) (n : ℕ) (old new : List ℕ) : Type 0 where
  pub has : (lane : ℕ) → lane < n → HasRecords l lane (row_of rows lane).logged new (fresh lane)
  pub same : SameOutside (fresh_ranges l rows fresh l.lanes) old new
