-- A commit that has ended leaves all bytes outside of the slot that it wrote.
use Rattle.std.proofs.Common.{ℕ, ◌≡◌, ◌+◌, ◌≤◌, ◌==◌, if◌then◌else◌, true, false, List, [], ◌∷◌, length, sym, ap, subst, arith, length-take}
use Rattle.std.specs.Prelude.{slice_index, drop}
use Rattle.block_disk.specs.Device.{Device, SameOutside, range_of}
use Rattle.block_disk.specs.Bytes.{spliced}
use Rattle.block_disk.proofs.Images.{image_now}
use Rattle.block_disk.proofs.Ranges.{outside_refl, outside_trans, outside_wider, spliced_same}
use Rattle.image_parts.specs.Calls.{Write, Sync, after}
use Rattle.image.specs.Commit.{IsSteady, closing_calls, body_calls, commit_calls}
use Rattle.image_parts.specs.Control.{control_bytes}
use Rattle.image_parts.specs.Slots.{other, slot_at, body_at, slot_range}
use Rattle.image_parts.specs.declared.control.Control.{Control}
use Rattle.image_parts.specs.declared.layout.Layout.{Layout}
use Rattle.image_parts.specs.declared.slot.Slot.{Slot}
use Rattle.image_parts.specs.declared.slot.Slot.TheVariants.{A, B}
use Rattle.image_parts.proofs.CallLemmas.{after-append}

slot_fits : (t : Slot) → slot_at t + 1048 ≤ 2160
slot_fits A = omega arith
slot_fits B = omega arith

-- bytes within the slot
write_same : (t : Slot) (at : ℕ) (xs ys : List ℕ) → slot_at t ≤ at → at + length ys ≤ slot_at t + 1048 → 2160 ≤ length xs → SameOutside (slot_range t ∷ []) xs (spliced xs at ys)
write_same t at xs ys from to fits = outside_wider (range_of at ys) (slot_range t) xs (spliced xs at ys) from to (spliced_same xs ys at (omega (arith, to, fits, slot_fits t)))

closing_same : (t : Slot) (d : Device) → 2160 ≤ length d.now.bytes → SameOutside (slot_range t ∷ []) d.now.bytes (after (closing_calls (slot_at t) d.now.bytes) d).now.bytes
closing_same t d fits = elim (slice_index d.now.bytes (slot_at t) == 165) as (λ b. SameOutside (slot_range t ∷ []) d.now.bytes (after (if b then Write (slot_at t) (0 ∷ []) ∷ Sync ∷ [] else []) d).now.bytes) [
  | true ↦ write_same t (slot_at t) d.now.bytes (0 ∷ []) (omega arith) (omega arith) fits
  | false ↦ outside_refl (slot_range t ∷ []) d.now.bytes
]

body_same : (t : Slot) (d : Device) (bytes : List ℕ) → length bytes ≤ 1040 → 2160 ≤ length d.now.bytes → SameOutside (slot_range t ∷ []) d.now.bytes (after (body_calls t bytes) d).now.bytes
body_same t d bytes short fits =
    let first : SameOutside (slot_range t ∷ []) d.now.bytes (spliced d.now.bytes (body_at t) bytes) = write_same t (body_at t) d.now.bytes bytes (omega arith) (omega (arith, short)) fits in
    outside_trans (slot_range t ∷ []) d.now.bytes (spliced d.now.bytes (body_at t) bytes) _ first
    (write_same t (slot_at t) (spliced d.now.bytes (body_at t) bytes) (165 ∷ []) (omega arith) (omega arith) (omega (arith, fits, first.size)))

pub commit_same : (slot : Slot) (d : Device) (bytes : List ℕ) → length bytes ≤ 1040 → 2160 ≤ length d.now.bytes →
    SameOutside (slot_range (other slot) ∷ []) d.now.bytes (after (commit_calls slot d.now.bytes bytes) d).now.bytes
commit_same slot d bytes short fits =
    let closed : Device = after (closing_calls (slot_at (other slot)) d.now.bytes) d in
    let first : SameOutside (slot_range (other slot) ∷ []) d.now.bytes closed.now.bytes = closing_same (other slot) d fits in
    subst (λ (e : Device). SameOutside (slot_range (other slot) ∷ []) d.now.bytes e.now.bytes) (sym (after-append (closing_calls (slot_at (other slot)) d.now.bytes) (body_calls (other slot) bytes) d))
    (outside_trans (slot_range (other slot) ∷ []) d.now.bytes closed.now.bytes _ first (body_same (other slot) closed bytes short (omega (arith, fits, first.size))))

-- the content of a control that shows has its size
content_short : (l : Layout) (e : Device) (slot : Slot) (c : Control) → IsSteady l e slot c → length (control_bytes c) ≤ 1040
content_short l e slot c steady = omega (
  arith,
  ap (λ (xs : List ℕ). length xs) (steady.shows e.now.bytes (image_now e)).spells.bytes,
  length-take 1040 (drop (body_at slot) e.now.bytes),
)

pub committed_same : (l : Layout) (slot : Slot) (d e : Device) (old new : Control) → IsSteady l d slot old → IsSteady l e (other slot) new → e ≡ after (commit_calls slot d.now.bytes (control_bytes new)) d →
    SameOutside (slot_range (other slot) ∷ []) d.now.bytes e.now.bytes
committed_same l slot d e old new was is made =
    subst (λ (x : Device). SameOutside (slot_range (other slot) ∷ []) d.now.bytes x.now.bytes) (sym made) (commit_same slot d (control_bytes new) (content_short l e (other slot) new is) was.fits)
