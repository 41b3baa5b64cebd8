-- How the slot that counts is found, before its body is looked at.
use Rattle.std.specs.Prelude.{◌<◌, ◌≡◌, ◌≢◌, ◌↔◌, ℕ, List, IsTrue, Result, Ok, Err}
use Rattle.std.specs.Int.{to_be_bytes, w64}
use Rattle.block_disk.specs.Bytes.{part}
use Rattle.image_parts.specs.Slots.{other, body_at, gate, body, sequence_of}
use Rattle.image_parts.specs.declared.slot.Slot.{Slot}
use Rattle.image_parts.specs.declared.slot.Slot.TheVariants.{A, B}
use Rattle.image_parts.specs.declared.choice.Head.{Head}
use Rattle.image_parts.specs.declared.error.ControlError.{ControlError}
use Rattle.image_parts.specs.declared.error.ControlError.TheVariants.{Fault, NoControl, BadControl}

-- what the first bytes of a slot say
pub record HeadOf (image : List ℕ) (s : Slot) (h : Head) : Type 0 where
  pub is_open : IsTrue h.is_open ↔ (gate s image ≡ 165)
  pub sequence : h.sequence ≡ sequence_of (body s image)
  pub spelled : to_be_bytes w64 h.sequence ≡ part (body_at s) 8 image

-- what each answer says of the image: of the open slots, the one with the greater sequence
abbrev pub Picks : List ℕ → Result Slot ControlError → Type 0
Picks image (Ok s) = (gate s image ≡ 165) × (gate (other s) image ≡ 165 → sequence_of (body (other s) image) < sequence_of (body s image))
Picks image (Err Fault) = Unit {0}
Picks image (Err NoControl) = (s : Slot) → gate s image ≢ 165
Picks image (Err BadControl) = ((s : Slot) → gate s image ≡ 165) × (sequence_of (body A image) ≡ sequence_of (body B image))
