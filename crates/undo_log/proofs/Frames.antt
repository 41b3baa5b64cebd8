-- What a change of some places leaves of the lanes' logs.
use Rattle.std.proofs.Common.{◌≡◌, ℕ, zero, suc, ◌+◌, ◌-◌, ◌<◌, ◌≤◌, List, [], ◌∷◌, length, subst, inl, arith}
use Rattle.heap_model.specs.declared.record.UndoRecord.{UndoRecord}
use Rattle.block_disk.specs.Device.{Range, SameOutside}
use Rattle.block_disk.specs.Images.{IsApart}
use Rattle.image_parts.specs.Layout.{IsLayout, record_at}
use Rattle.image_parts.specs.Rows.{IsRow}
use Rattle.image_parts.specs.declared.layout.Layout.{Layout}
use Rattle.image_parts.specs.declared.lane_row.LaneRow.{LaneRow}
use Rattle.undo_log.specs.Area.{HasRecords, record_range, record_ranges}
use Rattle.undo_log.specs.Frames.{Spares}
use Rattle.undo_log.proofs.Places.{lanes_apart, places_apart, behind_front}
use Rattle.undo_log.proofs.Appends.{records_kept}

pub records_survive : (l : Layout) (lane place : ℕ) (records : List UndoRecord) (rs : List Range) → ((i : ℕ) → i < length records → IsApart (record_at l lane (place + i)) 16 rs)
    → (old new : List ℕ) → HasRecords l lane place old records → SameOutside rs old new → HasRecords l lane place new records
records_survive l lane place records rs apart old new has same = records_kept l lane place rs old new records same apart has

-- what lies apart of each of some places lies apart of their ranges
each_apart : (l : Layout) (lane place n at m : ℕ) → ((i : ℕ) → i < n → IsApart at m (record_range l lane (place + i) ∷ [])) → IsApart at m (record_ranges l lane place n)
each_apart l lane place zero at m each = tt
each_apart l lane place (suc n) at m each =
    let here : place + 0 ≡ place = omega arith in (
      (subst (λ (p : ℕ). IsApart at m (record_range l lane p ∷ [])) here (each 0 (omega arith))).0,
      each_apart l lane (place + 1) n at m (λ i lt. let next : place + suc i ≡ place + 1 + i = omega arith in
          subst (λ (p : ℕ). IsApart at m (record_range l lane p ∷ [])) next (each (suc i) (omega arith))),
    )

pub spares : (l : Layout) (lane : ℕ) (row : LaneRow) (n : ℕ) → IsLayout l → IsRow l.capacity row → row.logged - row.start + n ≤ l.capacity → Spares l lane row (record_ranges l lane row.logged n)
spares l lane row n limits is_row fits = record {
  front = λ at m below. each_apart l lane row.logged n at m (λ i lt. (inl (omega (arith, below, behind_front l lane (row.logged + i))), tt));
  lanes = λ m place ne. each_apart l lane row.logged n (record_at l m place) 16 (λ i lt. lanes_apart l limits m lane place (row.logged + i) ne);
  live = λ place from to. each_apart l lane row.logged n (record_at l lane place) 16 (λ i lt.
      places_apart l limits lane place (row.logged + i) (omega arith) (omega (arith, is_row.settled, is_row.logged)));
}
