-- What of the two slots stays while bytes elsewhere are written.
use Rattle.std.proofs.Common.{◌≡◌, ℕ, ◌+◌, ◌<◌, ◌≤◌, List, length, get_or, refl, sym, ◌∙◌, ap, subst, arith}
use Rattle.std.specs.Int.{w64, from_be_bytes}
use Rattle.std.proofs.lemmas.Nat.{from_be_bytes-to_be_bytes_8}
use Rattle.block_disk.specs.Device.{Range, SameOutside}
use Rattle.block_disk.proofs.Bytes.{get_or_part, part_part}
use Rattle.block_disk.specs.Bytes.{part}
use Rattle.image_parts.specs.Control.{Spells}
use Rattle.image_parts.specs.Slots.{other, gate, body, sequence_of, Shows}
use Rattle.image_parts.specs.declared.layout.Layout.{Layout}
use Rattle.image_parts.specs.declared.control.Control.{Control}
use Rattle.image_parts.specs.declared.slot.Slot.{Slot}
use Rattle.image_parts.specs.declared.slot.Slot.TheVariants.{A, B}
use Rattle.block_disk.specs.Images.{IsApart, Survives}
use Rattle.block_disk.proofs.Ranges.{part_same}

pub sequence_spelled : (l : Layout) (bytes : List ℕ) (c : Control) → Spells l bytes c → sequence_of bytes ≡ c.sequence
unfolding sequence_of
sequence_spelled l bytes c s = ap (λ (b : List ℕ). from_be_bytes w64 (part 0 8 b)) s.bytes ∙ from_be_bytes-to_be_bytes_8 c.sequence s.valid.sequence.1

-- bytes outside of the slots

pub gate_clear : (s : Slot) (rs : List Range) (xs ys : List ℕ) → IsApart 64 2096 rs → SameOutside rs xs ys → 2160 ≤ length xs → gate s ys ≡ gate s xs
gate_clear A rs xs ys apart same room =
    let is = part_same 64 2096 rs xs ys same apart (omega arith) in
    sym (get_or_part 64 2096 ys 0 (omega arith)) ∙ ap (λ (b : List ℕ). get_or b 0 0) is ∙ get_or_part 64 2096 xs 0 (omega arith)
gate_clear B rs xs ys apart same room =
    let is = part_same 64 2096 rs xs ys same apart (omega arith) in
    sym (get_or_part 64 2096 ys 1048 (omega arith)) ∙ ap (λ (b : List ℕ). get_or b 1048 0) is ∙ get_or_part 64 2096 xs 1048 (omega arith)

pub body_clear : (s : Slot) (rs : List Range) (xs ys : List ℕ) → IsApart 64 2096 rs → SameOutside rs xs ys → 2160 ≤ length xs → body s ys ≡ body s xs
body_clear A rs xs ys apart same room =
    let is = part_same 64 2096 rs xs ys same apart (omega arith) in
    sym (part_part 8 1040 64 2096 ys (omega arith)) ∙ ap (part 8 1040) is ∙ part_part 8 1040 64 2096 xs (omega arith)
body_clear B rs xs ys apart same room =
    let is = part_same 64 2096 rs xs ys same apart (omega arith) in
    sym (part_part 1056 1040 64 2096 ys (omega arith)) ∙ ap (part 1056 1040) is ∙ part_part 1056 1040 64 2096 xs (omega arith)

pub shows_survives : (l : Layout) (s : Slot) (c : Control) (rs : List Range) → IsApart 64 2096 rs → Survives rs (λ image. Shows l image s c)
shows_survives l s c rs apart xs ys shows same = record {
  room = omega (arith, shows.room, same.size);
  is_open = gate_clear s rs xs ys apart same shows.room ∙ shows.is_open;
  greater = λ is. subst (λ (b : List ℕ). sequence_of b < c.sequence) (sym (body_clear (other s) rs xs ys apart same shows.room))
      (shows.greater (sym (gate_clear (other s) rs xs ys apart same shows.room) ∙ is));
  spells = subst (λ (b : List ℕ). Spells l b c) (sym (body_clear s rs xs ys apart same shows.room)) shows.spells;
}
