-- Which slot counts.
use Rattle.std.proofs.Common.{◌≡◌, ℕ, ◌+◌, ◌≤◌, List, Ok, Err, length, get_or, sym, ap, ◌∙◌, arith}
use Rattle.std.specs.Int.{w64, from_be_bytes, to_be_bytes}
use Rattle.std.proofs.Math.Dec.{eqb}
use Rattle.std.proofs.lemmas.Bool.{eqb-true, eq-eqb}
use Rattle.block_disk.proofs.Bytes.{get_or_part, part_part}
use Rattle.block_disk.specs.Bytes.{part}
use Rattle.image_parts.specs.Control.{Spells}
use Rattle.image_parts.specs.Slots.{slot_at, body_at, gate, body, sequence_of, Shows, Chooses}
use Rattle.image_parts.specs.declared.layout.Layout.{Layout}
use Rattle.image_parts.specs.declared.control.Control.{Control}
use Rattle.image_parts.specs.declared.slot.Slot.{Slot}
use Rattle.image_parts.specs.declared.slot.Slot.TheVariants.{A, B}
use Rattle.image_parts.specs.declared.error.ControlError.{ControlError}
use Rattle.image_parts.specs.declared.error.ControlError.TheVariants.{Fault, NoControl, BadControl}
use Rattle.image_parts.proofs.SlotLemmas.{sequence_spelled}
use Rattle.image_parts.specs.Choice.{Picks, HeadOf}

pub head_is : (image out : List ℕ) (s : Slot) (at sequence : ℕ) → at ≡ slot_at s → out ≡ part at 16 image → sequence ≡ from_be_bytes w64 (part 8 8 out)
    → to_be_bytes w64 sequence ≡ part 8 8 out → HeadOf image s (record { is_open = eqb (get_or out 0 0) 165; sequence = sequence })
unfolding sequence_of
head_is image out s at sequence at_is is number told =
    let here : get_or out 0 0 ≡ gate s image =
    ap (λ (l : List ℕ). get_or l 0 0) is ∙ get_or_part at 16 image 0 (omega arith) ∙ ap (λ (k : ℕ). get_or image k 0) (let z : at + 0 ≡ slot_at s = omega arith in z) in
    let inner : part 8 8 out ≡ part 0 8 (body s image) =
    ap (part 8 8) is ∙ part_part 8 8 at 16 image (omega arith) ∙ ap (λ (k : ℕ). part k 8 image) (let z : at + 8 ≡ slot_at s + 8 + 0 = omega arith in z)
    ∙ sym (part_part 0 8 (slot_at s + 8) 1040 image (omega arith)) in
    record {
      is_open = (λ holds. sym here ∙ eqb-true _ _ holds, λ same. eq-eqb _ _ (here ∙ same));
      sequence = number ∙ ap (from_be_bytes w64) inner;
      spelled = told ∙ ap (part 8 8) is ∙ part_part 8 8 at 16 image (omega arith) ∙ ap (λ (k : ℕ). part k 8 image) (let z : at + 8 ≡ slot_at s + 8 = omega arith in z);
    }

equal_none : (l : Layout) (image : List ℕ) → ((s : Slot) → gate s image ≡ 165) → sequence_of (body A image) ≡ sequence_of (body B image) → (s : Slot) (c : Control) → Shows l image s c → ⊥
equal_none l image gates same A c shows = absurd (omega (arith, shows.greater (gates B), sequence_spelled l (body A image) c shows.spells))
equal_none l image gates same B c shows = absurd (omega (arith, shows.greater (gates A), sequence_spelled l (body B image) c shows.spells))

pub refused : (l : Layout) (image : List ℕ) (e : ControlError) → Picks image (Err e) → Chooses l image (Err e)
refused l image Fault picks = tt
refused l image NoControl picks = picks
refused l image BadControl picks = ((A, picks.0 A), equal_none l image picks.0 picks.1)

pub none_spelled : (l : Layout) (image : List ℕ) (s : Slot) → Picks image (Ok s) → ((c : Control) → Spells l (body s image) c → ⊥) → (t : Slot) (c : Control) → Shows l image t c → ⊥
none_spelled l image A picks none A c shows = none c shows.spells
none_spelled l image B picks none B c shows = none c shows.spells
none_spelled l image A picks none B c shows = absurd (omega (arith, picks.1 shows.is_open, shows.greater picks.0, sequence_spelled l (body B image) c shows.spells))
none_spelled l image B picks none A c shows = absurd (omega (arith, picks.1 shows.is_open, shows.greater picks.0, sequence_spelled l (body A image) c shows.spells))

pub picked_shows : (l : Layout) (image : List ℕ) (s : Slot) (c : Control) → 2160 ≤ length image → Picks image (Ok s) → Spells l (body s image) c → Shows l image s c
picked_shows l image s c room picks spells = record {
  room = room;
  is_open = picks.0;
  greater = λ is. omega (arith, picks.1 is, sequence_spelled l (body s image) c spells);
  spells = spells;
}

pub body_read : (image out : List ℕ) (s : Slot) (at : ℕ) → at ≡ body_at s → out ≡ part at 1040 image → out ≡ body s image
body_read image out s at at_is is = is ∙ ap (λ (k : ℕ). part k 1040 image) at_is
