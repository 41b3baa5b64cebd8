-- Home cells: where a field's value lies in the image.
use Rattle.std.specs.Prelude.{ℕ, ◌<◌, ◌^◌, ◌≡◌, true, false, List, length, slice_index}
use Rattle.std.specs.List.{slice_index_or}
use Rattle.std.specs.Int.{to_be_bytes, w64}
use Rattle.block_disk.specs.Bytes.{part}
use Rattle.block_disk.specs.Device.{Range}
use Rattle.image_parts.specs.Layout.{cell_at}
use Rattle.image_parts.specs.declared.guard_row.GuardRow.{GuardRow}
use Rattle.image_parts.specs.declared.layout.Layout.{Layout}

-- the bytes of field f's home cell
abbrev pub cell_range : Layout → ℕ → Range
cell_range l f = record { start = cell_at l f; len = 8 }

-- field f's home cell holds this value
pub record HasCell (l : Layout) (f : ℕ) (image : List ℕ) (value : ℕ) : Type 0 where
  pub spelled : part (cell_at l f) 8 image ≡ to_be_bytes w64 value
  pub fits : value < 2 ^ 64

-- what the field of this row has at home: a persistent one the value in its cell, a transient one always its first value
-- (Java Language Specification 8.3.1.3)
pub record HasHome (l : Layout) (row : GuardRow) (f : ℕ) (image : List ℕ) (value : ℕ) : Type 0 where
  -- A persistent field has at home the value in its cell.
  pub persistent : row.transient ≡ false → HasCell l f image value
  -- A transient field has at home its first value, which no write changes.
  pub transient : row.transient ≡ true → value ≡ row.first

-- the fields have these values at home
pub record HasHomes (l : Layout) (rows : List GuardRow) (image values : List ℕ) : Type 0 where
  pub size : length values ≡ l.fields
  pub each : (f : ℕ) (d : GuardRow) → f < l.fields → HasHome l (slice_index_or rows f d) f image (slice_index values f)
