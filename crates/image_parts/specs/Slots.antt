-- The two slots of the control: one is rewritten while the other counts (this project's own).
use Rattle.std.specs.Prelude.{◌<◌, ◌≡◌, ◌≢◌, ℕ, ◌+◌, ◌≤◌, List, length, slice_index, Result, Ok, Err}
use Rattle.std.specs.Int.{from_be_bytes, w64}
use Rattle.block_disk.specs.Bytes.{part}
use Rattle.block_disk.specs.Device.{Range}
use Rattle.image_parts.specs.Control.{Spells}
use Rattle.image_parts.specs.declared.layout.Layout.{Layout}
use Rattle.image_parts.specs.declared.control.Control.{Control}
use Rattle.image_parts.specs.declared.slot.Slot.{Slot}
use Rattle.image_parts.specs.declared.slot.Slot.TheVariants.{A, B}
use Rattle.image_parts.specs.declared.error.ControlError.{ControlError}
use Rattle.image_parts.specs.declared.error.ControlError.TheVariants.{Fault, NoControl, BadControl}

-- the slot that is rewritten while this one counts
abbrev pub other : Slot → Slot
other A = B
other B = A

-- where a slot begins: its gate, seven bytes that nobody reads, and the body
abbrev pub slot_at : Slot → ℕ
slot_at A = 64
slot_at B = 1112

-- where its body begins
abbrev pub body_at : Slot → ℕ
body_at s = slot_at s + 8

-- the bytes of a slot
abbrev pub slot_range : Slot → Range
slot_range s = record { start = slot_at s; len = 1048 }

-- the gate at this place is open
abbrev pub IsOpen : ℕ → List ℕ → Type 0
IsOpen at image = slice_index image at ≡ 165

-- it is closed
abbrev pub IsShut : ℕ → List ℕ → Type 0
IsShut at image = slice_index image at ≢ 165

-- as many bytes as a slot's body has
abbrev pub IsBody : List ℕ → Type 0
IsBody bytes = length bytes ≡ 1040

-- the slot's gate, which is open at 165 and else closed
abbrev pub gate : Slot → List ℕ → ℕ
gate s image = slice_index image (slot_at s)

-- the slot's body
abbrev pub body : Slot → List ℕ → List ℕ
body s image = part (body_at s) 1040 image

-- the sequence with which a body begins, whether or not the rest is a control's
unfoldable pub sequence_of : List ℕ → ℕ
sequence_of bytes = from_be_bytes w64 (part 0 8 bytes)

-- the image shows this control: it is in this slot, whose gate is open, and the other one is closed or has a smaller
-- sequence
pub record Shows (l : Layout) (image : List ℕ) (s : Slot) (c : Control) : Type 0 where
  pub room : 2160 ≤ length image
  pub is_open : gate s image ≡ 165
  pub greater : gate (other s) image ≡ 165 → sequence_of (body (other s) image) < c.sequence
  pub spells : Spells l (body s image) c

-- what each answer of choosing a control says of the image
abbrev pub Chooses : Layout → List ℕ → Result (Slot × Control) ControlError → Type 0
Chooses l image (Ok found) = Shows l image found.0 found.1
Chooses l image (Err Fault) = Unit {0}
Chooses l image (Err NoControl) = (s : Slot) → gate s image ≢ 165
Chooses l image (Err BadControl) = ((s : Slot) × (gate s image ≡ 165)) × ((s : Slot) (c : Control) → Shows l image s c → ⊥)
