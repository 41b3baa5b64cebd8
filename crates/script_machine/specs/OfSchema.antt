-- Images of a schema (this project's own).
use Rattle.std.specs.Prelude.{ℕ, ◌≡◌, ◌<◌, true, List, replicate, slice_index_or}
use Rattle.guards.specs.Schema.{Declarations, object_count, field_count, first_of, guard_of, is_transient_of}
use Rattle.block_disk.specs.Device.{Device, LeftSince}
use Rattle.block_disk.specs.Memory.{Memory, device_of, fresh}
use Rattle.image_parts.specs.Calls.{after}
use Rattle.image_parts.specs.Format.{format_calls}
use Rattle.image_parts.specs.Layout.{size_of}
use Rattle.image_parts.specs.declared.guard_row.GuardRow.{GuardRow}
use Rattle.image_parts.specs.declared.layout.Layout.{Layout}
use Rattle.recover.specs.Reading.{HasFront}

-- the image has the schema's objects and fields, each field the schema's guard, and a transient one its mark and its first
-- value
pub record FitsSchema (schema : Declarations) (layout : Layout) (guards : List GuardRow) : Type 0 where
  pub objects : layout.objects ≡ object_count schema
  pub fields : layout.fields ≡ field_count schema
  pub guarded : (f : ℕ) (d : GuardRow) → f < field_count schema → (slice_index_or guards f d).guard.0 ≡ guard_of schema f
  pub marked : (f : ℕ) (d : GuardRow) → f < field_count schema → (slice_index_or guards f d).transient ≡ is_transient_of schema f
  pub begun : (f : ℕ) (d : GuardRow) → f < field_count schema → is_transient_of schema f ≡ true → (slice_index_or guards f d).first ≡ first_of schema f

-- if a header and guard rows can be read of these bytes, they are those of the schema
abbrev pub IsOfSchema : Declarations → List ℕ → Type 0
IsOfSchema schema image = (l : Layout) (guards : List GuardRow) → HasFront image l guards → FitsSchema schema l guards

-- so it is of whatever a crash leaves of the disk, at any moment since it was made
abbrev pub IsDiskOf : Declarations → Memory → Type 0
IsDiskOf schema disk = (image : List ℕ) → LeftSince 0 (device_of disk) image → IsOfSchema schema image

-- the device that formatting zeros makes, as many as the image has bytes: a crash counts back these writes and syncs
abbrev pub formatted_device : Declarations → Layout → Device
formatted_device schema layout = after (format_calls layout schema) (device_of (fresh (replicate (size_of layout) 0)))
