-- Why an image isn't made of a disk that has room for it.
use Rattle.std.proofs.Common.{ℕ, ◌≤◌, List, length, arith}
use Rattle.block_disk.specs.Device.{Device}
use Rattle.guards.specs.Schema.{Declarations}
use Rattle.image_parts.specs.Layout.{size_of}
use Rattle.image_parts.specs.declared.error.ImageError.{ImageError}
use Rattle.image_parts.specs.declared.error.ImageError.TheVariants.{Fault, BadHeader, Worn, TooSmall, NoMemory}
use Rattle.image_parts.specs.declared.guard_row.GuardRow.{GuardRow}
use Rattle.store_image.specs.Formatting.{RefusesFormat, layout_with}
use Rattle.host_heap.specs.Opening.{RefusesMaking}
use Rattle.host_heap.specs.declared.error.HostError.TheVariants.{Image}

pub making_refused : (objects : ℕ) (rows : List GuardRow) (lanes capacity : ℕ) (s : Declarations) (old new : Device) (e : ImageError) → size_of (layout_with s lanes capacity) ≤ length old.now.bytes
    → RefusesFormat s lanes capacity old new e → RefusesMaking objects rows lanes capacity (Image e)
making_refused objects rows lanes capacity s old new Fault room why = why.0
making_refused objects rows lanes capacity s old new BadHeader room why = why.0
making_refused objects rows lanes capacity s old new Worn room why = absurd why
making_refused objects rows lanes capacity s old new TooSmall room why = let short = why.1 in absurd (omega (arith, room, short))
making_refused objects rows lanes capacity s old new NoMemory room why = why.0
