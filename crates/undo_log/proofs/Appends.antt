-- What writing records one by one makes of a device, and what a change elsewhere leaves of them.
use Rattle.std.proofs.Common.{◌≡◌, ℕ, zero, suc, ◌+◌, ◌<◌, ◌≤◌, List, [], ◌∷◌, ◌++◌, length, drop, length-take, length-drop, sym, ◌∙◌, ap, subst, arith}
use Rattle.heap_model.specs.declared.record.UndoRecord.{UndoRecord}
use Rattle.block_disk.specs.Bytes.{part, spliced}
use Rattle.block_disk.specs.Device.{Range, Device, IsClear, SameOutside, written}
use Rattle.block_disk.specs.Images.{Always, ImageBut, LeavesOnly, IsApart}
use Rattle.block_disk.proofs.Bytes.{part_spliced, length_spliced}
use Rattle.block_disk.proofs.Ranges.{part_same, outside_more, spliced_same}
use Rattle.block_disk.proofs.Images.{begin, besides_then, besides_wider, follows, now_too}
use Rattle.image_parts.specs.Calls.{after}
use Rattle.image_parts.specs.Layout.{IsLayout, record_at, size_of}
use Rattle.image_parts.specs.declared.layout.Layout.{Layout}
use Rattle.undo_log.specs.RecordBytes.{Spells, record_bytes}
use Rattle.undo_log.specs.Area.{IsLoggable, HasRecord, HasRecords, record_range, record_ranges, record_writes}
use Rattle.undo_log.proofs.Places.{fits_image, places_apart}

-- one write more
pub writes_more : (l : Layout) (lane place : ℕ) (xs : List UndoRecord) (r : UndoRecord) (d : Device) →
    after (record_writes l lane place (xs ++ r ∷ [])) d ≡ written (record_at l lane (place + length xs)) (record_bytes r) (after (record_writes l lane place xs) d)
writes_more l lane place [] r d =
    let here : place ≡ place + 0 = omega arith in
    ap (λ (p : ℕ). written (record_at l lane p) (record_bytes r) d) here
writes_more l lane place (x ∷ xs) r d =
    let here : place + 1 + length xs ≡ place + length (x ∷ xs) = omega arith in
    let first : Device = written (record_at l lane place) (record_bytes x) d in
    writes_more l lane (place + 1) xs r first
    ∙ ap (λ (p : ℕ). written (record_at l lane p) (record_bytes r) (after (record_writes l lane (place + 1) xs) first)) here

-- one record more
pub has_more : (l : Layout) (lane place : ℕ) (image : List ℕ) (xs : List UndoRecord) (r : UndoRecord) →
    HasRecords l lane place image xs → HasRecord l lane (place + length xs) image r → HasRecords l lane place image (xs ++ r ∷ [])
has_more l lane place image [] r has one =
    let here : place + 0 ≡ place = omega arith in
    (subst (λ (p : ℕ). HasRecord l lane p image r) here one, tt)
has_more l lane place image (x ∷ xs) r has one =
    let here : place + length (x ∷ xs) ≡ place + 1 + length xs = omega arith in
    (has.0, has_more l lane (place + 1) image xs r has.1 (subst (λ (p : ℕ). HasRecord l lane p image r) here one))

-- a write in one of n places is one in their ranges
pub clear_one : (l : Layout) (lane place n i j : ℕ) → i < n → IsClear j (record_ranges l lane place n) → IsClear j (record_range l lane (place + i) ∷ [])
clear_one l lane place zero i j lt clear = absurd (omega arith)
clear_one l lane place (suc n) zero j lt clear =
    let here : place ≡ place + 0 = omega arith in
    subst (λ (p : ℕ). IsClear j (record_range l lane p ∷ [])) here (clear.0, tt)
clear_one l lane place (suc n) (suc i) j lt clear =
    let here : place + 1 + i ≡ place + suc i = omega arith in
    subst (λ (p : ℕ). IsClear j (record_range l lane p ∷ [])) here (clear_one l lane (place + 1) n i j (omega arith) clear.1)

pub outside_one : (l : Layout) (lane place n i : ℕ) (xs ys : List ℕ) → i < n → SameOutside (record_range l lane (place + i) ∷ []) xs ys → SameOutside (record_ranges l lane place n) xs ys
outside_one l lane place n i xs ys lt same = outside_more (record_range l lane (place + i) ∷ []) (record_ranges l lane place n) xs ys (λ j clear. clear_one l lane place n i j lt clear) same

-- a write in one of n places, after some in these places
pub write_follows : (l : Layout) (lane place n i : ℕ) (old mid new : Device) → i < n → Always mid (ImageBut old (record_ranges l lane place n))
    → LeavesOnly old mid (ImageBut old (record_ranges l lane place n)) → LeavesOnly mid new (ImageBut mid (record_range l lane (place + i) ∷ []))
    → LeavesOnly old new (ImageBut old (record_ranges l lane place n))
write_follows l lane place n i old mid new lt always before one =
    follows old mid new (ImageBut old (record_ranges l lane place n)) (record_range l lane (place + i) ∷ []) before one
    (λ image from. besides_then old mid (record_ranges l lane place n) image always
    (besides_wider mid (record_range l lane (place + i) ∷ []) (record_ranges l lane place n) image (λ xs ys same. outside_one l lane place n i xs ys lt same) from))

pub write_always : (l : Layout) (lane place n i : ℕ) (old mid new : Device) → i < n → Always mid (ImageBut old (record_ranges l lane place n))
    → LeavesOnly mid new (ImageBut mid (record_range l lane (place + i) ∷ [])) → Always new (ImageBut old (record_ranges l lane place n))
write_always l lane place n i old mid new lt always one =
    now_too mid new (ImageBut old (record_ranges l lane place n)) always
    (follows mid mid new (ImageBut old (record_ranges l lane place n)) (record_range l lane (place + i) ∷ [])
    (begin mid (ImageBut old (record_ranges l lane place n))) one
    (λ image from. besides_then old mid (record_ranges l lane place n) image always
    (besides_wider mid (record_range l lane (place + i) ∷ []) (record_ranges l lane place n) image (λ xs ys same. outside_one l lane place n i xs ys lt same) from)))

-- a place with a record lies within the image
room : (image : List ℕ) (at : ℕ) (r : UndoRecord) → Spells (part at 16 image) r → at + 16 ≤ length image
room image at r s =
    let long : length (part at 16 image) ≡ 16 = ap (λ (bytes : List ℕ). length bytes) s.spelled in
    omega (arith, long, length-take 16 (drop at image), length-drop at image)

-- a record outside of a change is as it was
record_kept : (l : Layout) (lane place : ℕ) (rs : List Range) (old new : List ℕ) (r : UndoRecord) → SameOutside rs old new → IsApart (record_at l lane place) 16 rs
    → HasRecord l lane place old r → HasRecord l lane place new r
record_kept l lane place rs old new r same apart has = record {
  spelled = subst (λ (bytes : List ℕ). Spells bytes r) (sym (part_same (record_at l lane place) 16 rs old new same apart (room old (record_at l lane place) r has.spelled))) has.spelled;
  named = has.named;
}

pub records_kept : (l : Layout) (lane place : ℕ) (rs : List Range) (old new : List ℕ) (xs : List UndoRecord) → SameOutside rs old new
    → ((i : ℕ) → i < length xs → IsApart (record_at l lane (place + i)) 16 rs) → HasRecords l lane place old xs → HasRecords l lane place new xs
records_kept l lane place rs old new [] same apart has = tt
records_kept l lane place rs old new (x ∷ xs) same apart has =
    let here : place + 0 ≡ place = omega arith in (
      record_kept l lane place rs old new x same (subst (λ (p : ℕ). IsApart (record_at l lane p) 16 rs) here (apart 0 (omega arith))) has.0,
      records_kept l lane (place + 1) rs old new xs same
          (λ i lt. let next : place + suc i ≡ place + 1 + i = omega arith in subst (λ (p : ℕ). IsApart (record_at l lane p) 16 rs) next (apart (suc i) (omega arith)))
          has.1,
    )

module _ (l : Layout) (limits : IsLayout l) (lane : ℕ) (in_image : lane < l.lanes) where
  -- a written record is there
  pub record_there : (place : ℕ) (d : Device) (r : UndoRecord) → size_of l ≤ length d.now.bytes → IsLoggable l r → HasRecord l lane place (written (record_at l lane place) (record_bytes r) d).now.bytes r
  record_there place d r fits loggable = record {
    spelled = record { spelled = part_spliced d.now.bytes (record_bytes r) (record_at l lane place) (omega (arith, fits_image l limits lane place in_image)); range = loggable.range };
    named = loggable.named;
  }

  -- and those before it are still there
  pub next_there : (place : ℕ) (d : Device) (xs : List UndoRecord) (r : UndoRecord) → size_of l ≤ length d.now.bytes → length xs < l.capacity → IsLoggable l r
      → HasRecords l lane place d.now.bytes xs → HasRecords l lane place (written (record_at l lane (place + length xs)) (record_bytes r) d).now.bytes (xs ++ r ∷ [])
  next_there place d xs r fits few loggable has =
      let at : ℕ = record_at l lane (place + length xs) in
      has_more l lane place (spliced d.now.bytes at (record_bytes r)) xs r
      (records_kept l lane place (record_range l lane (place + length xs) ∷ []) d.now.bytes (spliced d.now.bytes at (record_bytes r)) xs
      (spliced_same d.now.bytes (record_bytes r) at (omega (arith, fits_image l limits lane (place + length xs) in_image)))
      (λ i lt. places_apart l limits lane (place + i) (place + length xs) (omega arith) (omega arith))
      has)
      (record_there (place + length xs) d r fits loggable)

  pub size_kept : (place : ℕ) (d : Device) (r : UndoRecord) → size_of l ≤ length d.now.bytes → length (written (record_at l lane place) (record_bytes r) d).now.bytes ≡ length d.now.bytes
  size_kept place d r fits = length_spliced d.now.bytes (record_bytes r) (record_at l lane place) (omega (arith, fits_image l limits lane place in_image))
