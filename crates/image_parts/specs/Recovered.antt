-- A device that a store can be adopted from: an image with nothing in its logs (this project's own).
use Rattle.std.specs.Prelude.{ℕ, ◌≡◌, List, []}
use Rattle.block_disk.specs.Device.{Device}
use Rattle.image_parts.specs.Cells.{HasHomes}
use Rattle.image_parts.specs.Control.{empty_control}
use Rattle.image_parts.specs.Image.{IsImageOf}
use Rattle.image_parts.specs.Slots.{Shows}
use Rattle.image_parts.specs.declared.guard_row.GuardRow.{GuardRow}
use Rattle.image_parts.specs.declared.layout.Layout.{Layout}
use Rattle.image_parts.specs.declared.slot.Slot.{Slot}

-- the parts of it, over whatever device
pub record Parts (D : Type 0) : Type 0 where
  pub disk : D
  pub layout : Layout
  pub guards : List GuardRow
  pub slot : Slot
  pub sequence : ℕ
  pub heap : List ℕ

-- the device holds an image of this layout with these guard rows, whose fields have these values at home; the control in this slot counts, which
-- has this sequence and nothing in any log; and nothing is pending
pub record IsRecovered (d : Device) (l : Layout) (rows : List GuardRow) (slot : Slot) (sequence : ℕ) (heap : List ℕ) : Type 0 where
  pub image : IsImageOf l rows d.now.bytes
  pub control : Shows l d.now.bytes slot (empty_control sequence)
  pub homes : HasHomes l rows d.now.bytes heap
  pub durable : d.now.pending ≡ []
