-- Where the steps of a store write.
use Rattle.std.proofs.Common.{ℕ, zero, suc, ◌+◌, ◌<◌, ◌≤◌, List, [], ◌∷◌, ◌++◌, length, inl, inr, ⊎_elim, arith}
use Rattle.heap_model.specs.declared.record.UndoRecord.{UndoRecord}
use Rattle.block_disk.specs.Device.{Range, Device, IsClear, IsOutside}
use Rattle.block_disk.specs.Images.{ImageBut, LeavesOnly}
use Rattle.block_disk.proofs.Images.{besides_none, besides_then, besides_wider, follows, now_too, weaker}
use Rattle.block_disk.proofs.Ranges.{outside_more}
use Rattle.image_parts.specs.Cells.{cell_range}
use Rattle.image.specs.Commit.{OldOrNew, OldOrTurned, slots_range}
use Rattle.image_parts.specs.Layout.{IsLayout, record_at, size_of}
use Rattle.image_parts.specs.Slots.{other, slot_range}
use Rattle.image_parts.specs.declared.control.Control.{Control}
use Rattle.image_parts.specs.declared.lane_row.LaneRow.{LaneRow}
use Rattle.image_parts.specs.declared.layout.Layout.{Layout}
use Rattle.image_parts.specs.declared.slot.Slot.{Slot}
use Rattle.image_parts.specs.declared.slot.Slot.TheVariants.{A, B}
use Rattle.undo_log.specs.Area.{record_range, record_ranges}
use Rattle.undo_log.specs.StandsFor.{row_of}
use Rattle.undo_log.proofs.Places.{fits_image}
use Rattle.store_image.specs.NewRecords.{fresh_ranges}
use Rattle.store_image.specs.Steps.{step_ranges}

-- What lies outside of where steps write lies outside of each of their writes.

slot_clear : (l : Layout) (s : Slot) (i : ℕ) → IsClear i (step_ranges l) → IsClear i (slot_range s ∷ [])
slot_clear l A i clear = (⊎_elim (λ below. inl below) (λ above. inr (omega (arith, above))) clear.0, tt)
slot_clear l B i clear = (⊎_elim (λ below. inl (omega (arith, below))) (λ above. inr (omega (arith, above))) clear.0, tt)

pub cell_clear : (l : Layout) (f i : ℕ) → f < l.fields → IsClear i (step_ranges l) → IsClear i (cell_range l f ∷ [])
cell_clear l f i below clear = (⊎_elim (λ low. inl (omega (arith, low))) (λ high. inr (omega (arith, high, below))) clear.1.0, tt)

both_clear : (i : ℕ) (rs ss : List Range) → IsClear i rs → IsClear i ss → IsClear i (rs ++ ss)
both_clear i [] ss a b = b
both_clear i (r ∷ rs) ss a b = (a.0, both_clear i rs ss a.1 b)

module _ (l : Layout) (limits : IsLayout l) where
  record_clear : (lane place i : ℕ) → lane < l.lanes → IsClear i (step_ranges l) → IsOutside i (record_range l lane place)
  record_clear lane place i below clear =
      let fits : record_at l lane place + 16 ≤ size_of l = fits_image l limits lane place below in
      ⊎_elim (λ low. inl (omega (arith, low))) (λ high. inr (omega (arith, high, fits))) clear.1.0

  records_clear : (lane place n i : ℕ) → lane < l.lanes → IsClear i (step_ranges l) → IsClear i (record_ranges l lane place n)
  records_clear lane place zero i below clear = tt
  records_clear lane place (suc n) i below clear = (record_clear lane place i below clear, records_clear lane (place + 1) n i below clear)

  pub fresh_clear : (rows : List LaneRow) (fresh : ℕ → List UndoRecord) (n i : ℕ) → n ≤ l.lanes → IsClear i (step_ranges l) → IsClear i (fresh_ranges l rows fresh n)
  fresh_clear rows fresh zero i le clear = tt
  fresh_clear rows fresh (suc n) i le clear = both_clear i (record_ranges l n (row_of rows n).logged (length (fresh n))) (fresh_ranges l rows fresh n)
      (records_clear n (row_of rows n).logged (length (fresh n)) i (omega (arith, le)) clear) (fresh_clear rows fresh n i (omega (arith, le)) clear)

-- So each step writes nowhere else.

pub within : (l : Layout) (d e : Device) (rs : List Range) → ((i : ℕ) → IsClear i (step_ranges l) → IsClear i rs) → LeavesOnly d e (ImageBut d rs) → LeavesOnly d e (ImageBut d (step_ranges l))
within l d e rs to leaves = weaker d e (ImageBut d rs) (ImageBut d (step_ranges l))
    (λ image from. besides_wider d rs (step_ranges l) image (λ xs ys same. outside_more rs (step_ranges l) xs ys to same) from) leaves

-- a sync
pub sync_within : (l : Layout) (d e : Device) → LeavesOnly d e (ImageBut d []) → LeavesOnly d e (ImageBut d (step_ranges l))
sync_within l d e leaves = within l d e [] (λ i clear. tt) leaves

-- a commit
pub commit_within : (l : Layout) (d e : Device) (s : Slot) (old new : Control) → LeavesOnly d e (OldOrNew l d s old new) → LeavesOnly d e (ImageBut d (step_ranges l))
commit_within l d e s old new leaves = within l d e (slot_range (other s) ∷ []) (slot_clear l (other s))
    (weaker d e (OldOrNew l d s old new) (ImageBut d (slot_range (other s) ∷ [])) (λ image c. c.from) leaves)

pub turn_within : (l : Layout) (d e : Device) (s : Slot) (old new : Control) → LeavesOnly d e (OldOrTurned l d s old new) → LeavesOnly d e (ImageBut d (step_ranges l))
turn_within l d e s old new leaves = within l d e (slots_range ∷ []) (λ i clear. (clear.0, tt))
    (weaker d e (OldOrTurned l d s old new) (ImageBut d (slots_range ∷ [])) (λ image c. c.from) leaves)

-- some calls, and then others
pub within_then : (rs : List Range) (d e f : Device) → LeavesOnly d e (ImageBut d rs) → LeavesOnly e f (ImageBut e rs) → LeavesOnly d f (ImageBut d rs)
within_then rs d e f one two = follows d e f (ImageBut d rs) rs one two (λ image from. besides_then d e rs image (now_too d e (ImageBut d rs) (besides_none d rs) one) from)
