-- What the commit of a control by one gate changes.
use Rattle.std.proofs.Common.{◌≡◌, ◌⊎◌, inl, inr, ⊎_elim, ℕ, ◌*◌, ◌<◌, ◌≤◌, List, [], ◌∷◌, subst, arith}
use Rattle.heap_model.specs.declared.record.Record.{Record}
use Rattle.heap_model.specs.Setting.{Setting}
use Rattle.block_disk.specs.Device.{Range, Device, SameOutside}
use Rattle.block_disk.specs.Images.{Always, IsApart, LeavesOnly}
use Rattle.block_disk.proofs.Images.{always_only, besides_none, besides_survives, image_now, now_too, weaker}
use Rattle.image_parts.specs.Cells.{HasCell}
use Rattle.image.specs.Commit.{IsSteady, OldOrTurned, slots_range}
use Rattle.image_parts.specs.Layout.{cell_at, record_at}
use Rattle.image_parts.specs.Slots.{other, gate, body, sequence_of, Shows}
use Rattle.image_parts.specs.declared.control.Control.{Control}
use Rattle.image_parts.specs.declared.layout.Layout.{Layout}
use Rattle.image_parts.specs.declared.slot.Slot.{Slot}
use Rattle.image_parts.proofs.SlotLemmas.{sequence_spelled}
use Rattle.image.proofs.Turning.{twice}
use Rattle.image_parts.proofs.Places.{cell_survives}
use Rattle.heap_model.specs.Past.{Past}
use Rattle.store_image.specs.Consistent.{TellsCut, HasParts, ShowsPast}
use Rattle.store_image.proofs.Parts.{Spared, parts_survive}

-- one control shows
one_shows : (l : Layout) (image : List ℕ) (slot : Slot) (old new : Control) → Shows l image slot old → Shows l image (other slot) new → ⊥
one_shows l image slot old new was is =
    let less : sequence_of (body slot image) < new.sequence =
    subst (λ (t : Slot). gate t image ≡ 165 → sequence_of (body t image) < new.sequence) (twice slot) is.greater was.is_open in
    omega (
      arith,
      was.greater is.is_open,
      less,
      sequence_spelled l (body slot image) old was.spells,
      sequence_spelled l (body (other slot) image) new is.spells,
    )

-- once it has ended, nothing but the slots has changed
pub turned_same : (l : Layout) (slot : Slot) (d e : Device) (old new : Control) → IsSteady l d slot old → LeavesOnly d e (OldOrTurned l d slot old new)
    → IsSteady l e (other slot) new → SameOutside (slots_range ∷ []) d.now.bytes e.now.bytes
turned_same l slot d e old new steady leaves is =
    let before : Always d (OldOrTurned l d slot old new) = λ image left. record { from = besides_none d (slots_range ∷ []) image left; shows = inl (steady.shows image left) } in
    let now = now_too d e (OldOrTurned l d slot old new) before leaves e.now.bytes (image_now e) in
    ⊎_elim (λ was. absurd (one_shows l e.now.bytes slot old new was (is.shows e.now.bytes (image_now e)))) (λ both. both.1) now.shows
