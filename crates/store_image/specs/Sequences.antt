-- How far a step carries the sequence of the control that counts (this project's own). Recovery refuses an image whose control is at
-- its last one.
use Rattle.std.specs.Prelude.{ℕ, ◌≤◌, List}
use Rattle.image_parts.specs.Slots.{Shows}
use Rattle.image_parts.specs.declared.control.Control.{Control}
use Rattle.image_parts.specs.declared.layout.Layout.{Layout}
use Rattle.image_parts.specs.declared.slot.Slot.{Slot}

-- the control that the image shows has this sequence or a smaller one
pub record ShowsUpTo (l : Layout) (last : ℕ) (image : List ℕ) : Type 0 where
  pub slot : Slot
  pub control : Control
  pub shows : Shows l image slot control
  pub sequence : control.sequence ≤ last
