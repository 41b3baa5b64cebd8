-- The control of an image: what counts of each lane's log (this project's own format).
use Rattle.std.specs.Prelude.{ℕ, ◌≤◌, ◌<◌, ◌^◌, ◌≡◌, ◌⊎◌, List, [], ◌∷◌, ◌++◌, length, take, drop, replicate, All}
use Rattle.std.specs.Int.{to_be_bytes, w32, w64}
use Rattle.image_parts.specs.declared.layout.Layout.{Layout}
use Rattle.image_parts.specs.declared.lane_row.LaneRow.{LaneRow}
use Rattle.image_parts.specs.declared.control.Control.{Control}
use Rattle.image_parts.specs.Rows.{rows_bytes, IsRow, empty_row}

-- the sequence, the version, four zeros and the rows of 32 lanes
abbrev pub control_bytes : Control → List ℕ
control_bytes c = to_be_bytes w64 c.sequence ++ to_be_bytes w32 c.version ++ 0 ∷ 0 ∷ 0 ∷ 0 ∷ [] ++ rows_bytes c.rows

-- 32 rows; those of the image's lanes are in order, and the others are zeros
pub record AreRows (l : Layout) (rows : List LaneRow) : Type 0 where
  pub size : length rows ≡ 32
  pub lanes : All (IsRow l.capacity) (take l.lanes rows)
  pub rest : All (λ r. r ≡ empty_row) (drop l.lanes rows)

-- what a control of an image of this layout may be. Version 1 is that of images from before there were transient fields
pub record IsControl (l : Layout) (c : Control) : Type 0 where
  pub sequence : (1 ≤ c.sequence) × (c.sequence < 2 ^ 64)
  pub version : (c.version ≡ 1) ⊎ (c.version ≡ 2)
  pub rows : AreRows l c.rows

-- the bytes are those of this control
pub record Spells (l : Layout) (body : List ℕ) (c : Control) : Type 0 where
  pub bytes : body ≡ control_bytes c
  pub valid : IsControl l c

-- the control with this sequence and these rows
abbrev pub control_of : ℕ → List LaneRow → Control
control_of sequence rows = record { sequence = sequence; version = 2; rows = rows }

-- the control with this sequence and nothing in any log
abbrev pub empty_control : ℕ → Control
empty_control sequence = control_of sequence (replicate 32 empty_row)
