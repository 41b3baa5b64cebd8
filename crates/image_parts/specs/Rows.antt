-- The row of a lane in a control (this project's own format).
use Rattle.std.specs.Prelude.{ℕ, ◌≤◌, ◌<◌, ◌-◌, ◌^◌, List, ◌++◌}
use Rattle.std.specs.List.{flat_map}
use Rattle.std.specs.Int.{to_be_bytes, w64}
use Rattle.image_parts.specs.declared.lane_row.LaneRow.{LaneRow}

-- start, settled, logged, kept
abbrev pub row_bytes : LaneRow → List ℕ
row_bytes r = to_be_bytes w64 r.start ++ to_be_bytes w64 r.settled ++ to_be_bytes w64 r.logged ++ to_be_bytes w64 r.kept

-- the rows, by lane
abbrev pub rows_bytes : List LaneRow → List ℕ
rows_bytes rows = flat_map row_bytes rows

-- four numbers of 64 bits
pub record FitsRow (r : LaneRow) : Type 0 where
  pub start : r.start < 2 ^ 64
  pub settled : r.settled < 2 ^ 64
  pub logged : r.logged < 2 ^ 64
  pub kept : r.kept < 2 ^ 64

-- the places are in order, no more sections than records are kept, and the live records fit the lane's area
pub record IsRow (capacity : ℕ) (r : LaneRow) : Type 0 where
  pub settled : r.start ≤ r.settled
  pub logged : r.settled ≤ r.logged
  pub limit : r.logged ≤ 2 ^ 63
  pub kept : r.kept ≤ r.settled
  pub fits : r.logged - r.start ≤ capacity

-- a log with nothing in it
abbrev pub empty_row : LaneRow
empty_row = record { start = 0; settled = 0; logged = 0; kept = 0 }
