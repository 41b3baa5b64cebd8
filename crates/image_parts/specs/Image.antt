-- What of an image never changes once it was made: its header and its guard rows.
use Rattle.std.specs.Prelude.{ℕ, ◌≤◌, List, length}
use Rattle.image_parts.specs.Guards.{HasGuards}
use Rattle.image_parts.specs.Header.{HasHeader}
use Rattle.image_parts.specs.Layout.{size_of}
use Rattle.image_parts.specs.declared.guard_row.GuardRow.{GuardRow}
use Rattle.image_parts.specs.declared.layout.Layout.{Layout}

-- an image of this layout with these guard rows
pub record IsImageOf (l : Layout) (rows : List GuardRow) (image : List ℕ) : Type 0 where
  pub room : size_of l ≤ length image
  pub header : HasHeader image l
  pub guards : HasGuards l image rows
