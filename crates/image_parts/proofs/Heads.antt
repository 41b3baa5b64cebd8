-- What the first bytes of a device say.
use Rattle.std.proofs.Common.{◌≡◌, ◌+◌, ◌∙◌, ℕ, List, ap, arith, sym}
use Rattle.std.specs.Int.{from_be_bytes, w64}
use Rattle.block_disk.proofs.Bytes.{part_part}
use Rattle.block_disk.specs.Bytes.{part}
use Rattle.image_parts.specs.Head.{HasNoControl}
use Rattle.image_parts.specs.Slots.{body, gate, sequence_of, slot_at}
use Rattle.image_parts.specs.declared.slot.Slot.{Slot}
use Rattle.image_parts.specs.declared.slot.Slot.TheVariants.{A, B}

-- a slot's sequence is that with which its body begins
pub sequence_is : (image : List ℕ) (s : Slot) (at n : ℕ) → at ≡ slot_at s → n ≡ from_be_bytes w64 (part (at + 8) 8 image) → n ≡ sequence_of (body s image)
unfolding sequence_of
sequence_is image s at n is number =
    number ∙ ap (λ (k : ℕ). from_be_bytes w64 (part k 8 image)) (let z : at + 8 ≡ slot_at s + 8 + 0 = omega arith in z)
    ∙ ap (from_be_bytes w64) (sym (part_part 0 8 (slot_at s + 8) 1040 image (omega arith)))

-- there are two slots
pub both_slots : (image : List ℕ) → (gate A image ≡ 165 → sequence_of (body A image) ≡ 0) → (gate B image ≡ 165 → sequence_of (body B image) ≡ 0) → HasNoControl image
both_slots image a b A = a
both_slots image a b B = b
