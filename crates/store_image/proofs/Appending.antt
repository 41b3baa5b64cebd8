-- New records written lane by lane, behind the logged ones.
use Rattle.std.proofs.Common.{◌≡◌, inl, inr, ℕ, zero, suc, ◌+◌, ◌<◌, ◌≤◌, List, [], ◌∷◌, ◌++◌, length, sym, subst, arith}
use Rattle.std.proofs.lemmas.Bool.{cases_lt}
use Rattle.heap_model.specs.declared.record.UndoRecord.{UndoRecord}
use Rattle.block_disk.specs.Device.{Range, Device, IsClear, SameOutside, written}
use Rattle.block_disk.specs.Images.{Always, ImageBut, IsApart, LeavesOnly}
use Rattle.block_disk.proofs.Images.{begin, besides_then, besides_wider, follows, now_too}
use Rattle.block_disk.proofs.Ranges.{clear_left, clear_right, outside_both, outside_more, outside_refl, outside_trans, spliced_same}
use Rattle.image_parts.specs.Calls.{after}
use Rattle.image_parts.specs.Layout.{IsLayout, area_at, record_at, size_of}
use Rattle.image_parts.specs.Rows.{IsRow}
use Rattle.image_parts.specs.declared.lane_row.LaneRow.{LaneRow}
use Rattle.image_parts.specs.declared.layout.Layout.{Layout}
use Rattle.undo_log.specs.Area.{HasRecords, record_range, record_ranges, record_writes}
use Rattle.undo_log.specs.Frames.{Spares}
use Rattle.undo_log.specs.RecordBytes.{record_bytes}
use Rattle.undo_log.specs.StandsFor.{row_of}
use Rattle.undo_log.proofs.Appends.{size_kept}
use Rattle.undo_log.proofs.Frames.{records_survive, spares}
use Rattle.undo_log.proofs.Places.{fits_image}
use Rattle.store_image.specs.NewRecords.{FitsLane, HasFresh, fresh_ranges}

-- writing records changes their places alone
pub writes_same : (l : Layout) → IsLayout l → (lane place : ℕ) (xs : List UndoRecord) (d : Device) → lane < l.lanes → size_of l ≤ length d.now.bytes
    → SameOutside (record_ranges l lane place (length xs)) d.now.bytes (after (record_writes l lane place xs) d).now.bytes
writes_same l limits lane place [] d below fits = outside_refl [] d.now.bytes
writes_same l limits lane place (x ∷ xs) d below fits =
    let first : Device = written (record_at l lane place) (record_bytes x) d in
    outside_both (record_range l lane place ∷ []) (record_ranges l lane (place + 1) (length xs)) d.now.bytes first.now.bytes (after (record_writes l lane (place + 1) xs) first).now.bytes
    (spliced_same d.now.bytes (record_bytes x) (record_at l lane place) (omega (arith, fits, fits_image l limits lane place below)))
    (writes_same l limits lane (place + 1) xs first below (omega (arith, fits, size_kept l limits lane below place d x fits)))

-- what lies apart of each of two lists of ranges lies apart of both
apart_both : (at n : ℕ) (rs ss : List Range) → IsApart at n rs → IsApart at n ss → IsApart at n (rs ++ ss)
apart_both at n [] ss a b = b
apart_both at n (r ∷ rs) ss a b = (a.0, apart_both at n rs ss a.1 b)

module _ (l : Layout) (rows : List LaneRow) (fresh : ℕ → List UndoRecord) where
  abbrev ranges_of : ℕ → List Range
  ranges_of k = record_ranges l k (row_of rows k).logged (length (fresh k))

  pub apart_each : (at m n : ℕ) → ((k : ℕ) → k < n → IsApart at m (ranges_of k)) → IsApart at m (fresh_ranges l rows fresh n)
  apart_each at m zero each = tt
  apart_each at m (suc n) each = apart_both at m (ranges_of n) (fresh_ranges l rows fresh n) (each n (omega arith)) (apart_each at m n (λ k less. each k (omega arith)))

  clear_each : (i k n : ℕ) → k < n → IsClear i (fresh_ranges l rows fresh n) → IsClear i (ranges_of k)
  clear_each i k zero less clear = absurd (omega arith)
  clear_each i k (suc n) less clear = elim (cases_lt k n) [
    | inl lt ↦ clear_each i k n lt (clear_right i (ranges_of n) (fresh_ranges l rows fresh n) clear)
    | inr from ↦
        let is : n ≡ k = omega arith in
        subst (λ (j : ℕ). IsClear i (ranges_of j)) is (clear_left i (ranges_of n) (fresh_ranges l rows fresh n) clear)
  ]

  pub wider : (k n : ℕ) (xs ys : List ℕ) → k < n → SameOutside (ranges_of k) xs ys → SameOutside (fresh_ranges l rows fresh n) xs ys
  wider k n xs ys less same = outside_more (ranges_of k) (fresh_ranges l rows fresh n) xs ys (λ i clear. clear_each i k n less clear) same

  module _ (limits : IsLayout l) (is_row : (k : ℕ) → k < l.lanes → IsRow l.capacity (row_of rows k)) (fits : (k : ℕ) → k < l.lanes → FitsLane l (row_of rows k) (fresh k)) where
    abbrev rs : List Range
    rs = fresh_ranges l rows fresh l.lanes

    spared_by : (k : ℕ) → k < l.lanes → Spares l k (row_of rows k) (ranges_of k)
    spared_by k below = spares l k (row_of rows k) (length (fresh k)) limits (is_row k below) (fits k below).room

    -- all that lies before the areas, and each live record
    pub front_apart : (at n : ℕ) → at + n ≤ area_at l 0 → IsApart at n rs
    front_apart at n before = apart_each at n l.lanes (λ k below. (spared_by k below).front at n before)

    pub live_apart : (k place : ℕ) → k < l.lanes → (row_of rows k).start ≤ place → place < (row_of rows k).logged → IsApart (record_at l k place) 16 rs
    live_apart k place below from to = apart_each (record_at l k place) 16 l.lanes (λ j inside. elim (cases_lt j k) [
      | inl less ↦ (spared_by j inside).lanes k place (λ same. omega (arith, same, less))
      | inr upto ↦ elim (cases_lt k j) [
        | inl less ↦ (spared_by j inside).lanes k place (λ same. omega (arith, same, less))
        | inr both ↦
            let is : k ≡ j = omega arith in
            subst (λ (i : ℕ). IsApart (record_at l k place) 16 (ranges_of i)) is ((spared_by k below).live place from to)
      ]
    ])

    pub none_yet : (image : List ℕ) → HasFresh l rows fresh 0 image image
    none_yet image = record { has = λ k below. absurd (omega arith); same = outside_refl rs image }

    -- one lane more
    module _ (i : ℕ) (less : i < l.lanes) (d0 d1 d2 : Device) (room : size_of l ≤ length d0.now.bytes) where
      pub next_lane : HasFresh l rows fresh i d0.now.bytes d1.now.bytes → d2 ≡ after (record_writes l i (row_of rows i).logged (fresh i)) d1
          → HasRecords l i (row_of rows i).logged d2.now.bytes (fresh i) → HasFresh l rows fresh (i + 1) d0.now.bytes d2.now.bytes
      next_lane before made here =
          let step : SameOutside (ranges_of i) d1.now.bytes d2.now.bytes = subst (λ (d : Device). SameOutside (ranges_of i) d1.now.bytes d.now.bytes) (sym made)
          (writes_same l limits i (row_of rows i).logged (fresh i) d1 less (omega (arith, room, before.same.size))) in
          record {
            has = λ k upto. elim (cases_lt k i) [
              | inl lt ↦ records_survive l k (row_of rows k).logged (fresh k) (ranges_of i)
                  (λ j within. (spared_by i less).lanes k ((row_of rows k).logged + j) (λ same. omega (arith, same, lt)))
                  d1.now.bytes d2.now.bytes (before.has k lt) step
              | inr from ↦
                  let is : i ≡ k = omega arith in
                  subst (λ (j : ℕ). HasRecords l j (row_of rows j).logged d2.now.bytes (fresh j)) is here
            ];
            same = outside_trans rs d0.now.bytes d1.now.bytes d2.now.bytes before.same (wider i l.lanes d1.now.bytes d2.now.bytes less step);
          }

      module _ (always : Always d1 (ImageBut d0 rs)) (one : LeavesOnly d1 d2 (ImageBut d1 (ranges_of i))) where
        within : (image : List ℕ) → ImageBut d1 (ranges_of i) image → ImageBut d0 rs image
        within image from = besides_then d0 d1 rs image always (besides_wider d1 (ranges_of i) rs image (λ xs ys same. wider i l.lanes xs ys less same) from)

        pub lane_follows : LeavesOnly d0 d1 (ImageBut d0 rs) → LeavesOnly d0 d2 (ImageBut d0 rs)
        lane_follows before = follows d0 d1 d2 (ImageBut d0 rs) (ranges_of i) before one within

        pub lane_always : Always d2 (ImageBut d0 rs)
        lane_always = now_too d1 d2 (ImageBut d0 rs) always (follows d1 d1 d2 (ImageBut d0 rs) (ranges_of i) (begin d1 (ImageBut d0 rs)) one within)
