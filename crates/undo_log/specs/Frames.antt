-- What a change of some ranges leaves of the lanes' logs (this project's own). What it leaves of an image's other parts,
-- `image` tells.
use Rattle.std.specs.Prelude.{ℕ, ◌≢◌, ◌+◌, ◌-◌, ◌<◌, ◌≤◌, List, length}
use Rattle.heap_model.specs.declared.record.UndoRecord.{UndoRecord}
use Rattle.block_disk.specs.Device.{Range}
use Rattle.block_disk.specs.Images.{IsApart, Survives}
use Rattle.image_parts.specs.Layout.{IsLayout, area_at, record_at}
use Rattle.image_parts.specs.Rows.{IsRow}
use Rattle.image_parts.specs.declared.layout.Layout.{Layout}
use Rattle.image_parts.specs.declared.lane_row.LaneRow.{LaneRow}
use Rattle.undo_log.specs.Area.{HasRecords, record_ranges}

-- Whatever is written apart from each of their places, wherever the lane's area ends, leaves a lane's records.
abbrev pub RecordsSurvive : Type 0
RecordsSurvive = (l : Layout) (lane place : ℕ) (records : List UndoRecord) (ranges : List Range) →
    ((i : ℕ) → i < length records → IsApart (record_at l lane (place + i)) 16 ranges) → Survives ranges (λ image. HasRecords l lane place image records)

-- what these ranges leave alone: all that lies before the lanes' areas, the other lanes, and this lane's live places
pub record Spares (l : Layout) (lane : ℕ) (row : LaneRow) (ranges : List Range) : Type 0 where
  pub front : (at n : ℕ) → at + n ≤ area_at l 0 → IsApart at n ranges
  pub lanes : (other place : ℕ) → other ≢ lane → IsApart (record_at l other place) 16 ranges
  pub live : (place : ℕ) → row.start ≤ place → place < row.logged → IsApart (record_at l lane place) 16 ranges

-- The n places behind a lane's live records are no live ones, where they fit into its area beside them.
abbrev pub SpareLaw : Type 0
SpareLaw = (l : Layout) (lane : ℕ) (row : LaneRow) (n : ℕ) → IsLayout l → IsRow l.capacity row → row.logged - row.start + n ≤ l.capacity →
    Spares l lane row (record_ranges l lane row.logged n)
