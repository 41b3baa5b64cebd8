-- What the writes of home cells make of a device, and what they leave of its images.
use Rattle.std.proofs.Common.{◌≡◌, inl, inr, ℕ, zero, suc, ◌<◌, ◌≤◌, All, List, [], ◌∷◌, ◌++◌, length, get_or, refl, sym, subst, arith}
use Rattle.std.specs.Prelude.{slice_index}
use Rattle.std.specs.Int.{to_be_bytes, w64}
use Rattle.std.proofs.lemmas.Bool.{cases_lt}
use Rattle.std.proofs.lemmas.Bool.Decides.{eqb_tells}
use Rattle.heap_model.specs.declared.ids.FieldId.{FieldId}
use Rattle.block_disk.specs.Device.{Device, IsClear, SameOutside, written}
use Rattle.block_disk.specs.Images.{Always, ImageBut, IsApart, LeavesOnly}
use Rattle.block_disk.proofs.Images.{besides_then, besides_wider, follows, now_too, weaker}
use Rattle.block_disk.proofs.Ranges.{outside_more, spliced_same}
use Rattle.image_parts.specs.Calls.{after}
use Rattle.image_parts.specs.Cells.{HasCell, cell_range}
use Rattle.image_parts.specs.Layout.{cell_at, size_of}
use Rattle.image_parts.specs.declared.layout.Layout.{Layout}
use Rattle.image_parts.proofs.Places.{cell_survives}
use Rattle.recover_heap.specs.Putting.{cell_ranges, put_calls}

-- one write more
pub calls_more : (l : Layout) (heap : List ℕ) (xs : List FieldId) (f : FieldId) (d : Device) →
    after (put_calls l heap (xs ++ f ∷ [])) d ≡ written (cell_at l f.0) (to_be_bytes w64 (slice_index heap f.0)) (after (put_calls l heap xs) d)
calls_more l heap [] f d = refl
calls_more l heap (x ∷ xs) f d = calls_more l heap xs f (written (cell_at l x.0) (to_be_bytes w64 (slice_index heap x.0)) d)

-- cells of two fields lie apart
pub cells_apart : (l : Layout) (f g : ℕ) → (f ≡ g → ⊥) → IsApart (cell_at l g) 8 (cell_range l f ∷ [])
cells_apart l f g ne = elim (cases_lt g f) [
  | inl before ↦ (inl (omega arith), tt)
  | inr from ↦ let behind : f < g = omega (arith, ne) in (inr (omega arith), tt)
]

-- a change of one of the fields' cells is one of their cells
clear_cell : (l : Layout) (fields : List FieldId) (i : ℕ) (d : FieldId) (j : ℕ) → i < length fields → IsClear j (cell_ranges l fields) → IsClear j (cell_range l (get_or fields i d).0 ∷ [])
clear_cell l [] i d j lt clear = absurd (omega arith)
clear_cell l (f ∷ fs) zero d j lt clear = (clear.0, tt)
clear_cell l (f ∷ fs) (suc i) d j lt clear = clear_cell l fs i d j (omega arith) clear.1

-- a write of one of the cells, after some of them
module _ (l : Layout) (fields : List FieldId) (i : ℕ) (d : FieldId) (lt : i < length fields) (old mid new : Device)
    (always : Always mid (ImageBut old (cell_ranges l fields))) (one : LeavesOnly mid new (ImageBut mid (cell_range l (get_or fields i d).0 ∷ []))) where
  in_cell : (image : List ℕ) → ImageBut mid (cell_range l (get_or fields i d).0 ∷ []) image → ImageBut old (cell_ranges l fields) image
  in_cell image from =
      besides_then old mid (cell_ranges l fields) image always
      (besides_wider mid (cell_range l (get_or fields i d).0 ∷ []) (cell_ranges l fields) image
      (λ xs ys same. outside_more (cell_range l (get_or fields i d).0 ∷ []) (cell_ranges l fields) xs ys (λ j clear. clear_cell l fields i d j lt clear) same) from)

  pub put_follows : LeavesOnly old mid (ImageBut old (cell_ranges l fields)) → LeavesOnly old new (ImageBut old (cell_ranges l fields))
  put_follows before = follows old mid new (ImageBut old (cell_ranges l fields)) (cell_range l (get_or fields i d).0 ∷ []) before one in_cell

  pub put_always : Always new (ImageBut old (cell_ranges l fields))
  put_always = now_too mid new (ImageBut old (cell_ranges l fields)) always
      (weaker mid new (ImageBut mid (cell_range l (get_or fields i d).0 ∷ [])) (ImageBut old (cell_ranges l fields)) in_cell one)

-- after a write of a cell within the image the cells that were put go on to hold their values
pub put_holds : (l : Layout) (heap : List ℕ) (fields : List FieldId) (f : FieldId) (old new : Device) → size_of l ≤ length old.now.bytes → f.0 < l.fields →
    new ≡ written (cell_at l f.0) (to_be_bytes w64 (slice_index heap f.0)) old → HasCell l f.0 new.now.bytes (slice_index heap f.0) →
    All (λ g. HasCell l g.0 old.now.bytes (slice_index heap g.0)) fields → All (λ g. HasCell l g.0 new.now.bytes (slice_index heap g.0)) fields
put_holds l heap fields f old new fits below is here before = λ k d lt.
    let g : FieldId = get_or fields k d in
    elim (eqb_tells f.0 g.0) [
      | inl e ↦ subst (λ (n : ℕ). HasCell l n new.now.bytes (slice_index heap n)) e.1 here
      | inr e ↦
          let same : SameOutside (cell_range l f.0 ∷ []) old.now.bytes new.now.bytes = subst (λ (w : Device). SameOutside (cell_range l f.0 ∷ []) old.now.bytes w.now.bytes) (sym is)
          (spliced_same old.now.bytes (to_be_bytes w64 (slice_index heap f.0)) (cell_at l f.0) (omega (arith, fits, below))) in
          cell_survives l g.0 (slice_index heap g.0) (cell_range l f.0 ∷ []) (cells_apart l f.0 g.0 e.1) old.now.bytes new.now.bytes (before k d lt) same
    ]

pub put_size : (l : Layout) (heap : List ℕ) (f : FieldId) (old new : Device) → size_of l ≤ length old.now.bytes → f.0 < l.fields →
    new ≡ written (cell_at l f.0) (to_be_bytes w64 (slice_index heap f.0)) old → length new.now.bytes ≡ length old.now.bytes
put_size l heap f old new fits below is =
    subst (λ (w : Device). length w.now.bytes ≡ length old.now.bytes) (sym is)
    (spliced_same old.now.bytes (to_be_bytes w64 (slice_index heap f.0)) (cell_at l f.0) (omega (arith, fits, below))).size
