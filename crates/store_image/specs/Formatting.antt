-- What making an image gives and refuses (this project's own).
use Rattle.std.specs.Prelude.{ℕ, ◌≡◌, ◌<◌, ◌≤◌, length}
use Rattle.block_disk.specs.Device.{Device, HasFailed}
use Rattle.guards.specs.Schema.{Declarations, object_count, field_count}
use Rattle.image_parts.specs.Layout.{size_of}
use Rattle.image_parts.specs.declared.error.ImageError.{ImageError}
use Rattle.image_parts.specs.declared.error.ImageError.TheVariants.{Fault, BadHeader, TooSmall, NoMemory}
use Rattle.image_parts.specs.declared.layout.Layout.{Layout}

-- an image may have so many lanes, of so many records
pub record AreLimits (lanes capacity : ℕ) : Type 0 where
  pub lanes_some : 1 ≤ lanes
  pub lanes_few : lanes ≤ 32
  pub capacity_least : 2000 ≤ capacity
  pub capacity_most : capacity ≤ 1048576

-- the layout of the schema's image with them
abbrev pub layout_with : Declarations → (lanes capacity : ℕ) → Layout
layout_with schema lanes capacity = record { objects = object_count schema; fields = field_count schema; lanes = lanes; capacity = capacity }

-- what each refusal says, in the order in which they are tried; of the device after a fault nothing is claimed
abbrev pub RefusesFormat : Declarations → (lanes capacity : ℕ) → (old new : Device) → ImageError → Type 0
RefusesFormat schema lanes capacity old new BadHeader = (AreLimits lanes capacity → ⊥) × (new ≡ old)
RefusesFormat schema lanes capacity old new TooSmall = AreLimits lanes capacity × (length old.now.bytes < size_of (layout_with schema lanes capacity)) × (new ≡ old)
RefusesFormat schema lanes capacity old new NoMemory = AreLimits lanes capacity × (size_of (layout_with schema lanes capacity) ≤ length old.now.bytes) × (new ≡ old)
RefusesFormat schema lanes capacity old new Fault =
    AreLimits lanes capacity × (size_of (layout_with schema lanes capacity) ≤ length old.now.bytes) × HasFailed old.failures new.failures
RefusesFormat schema lanes capacity old new _ = ⊥
