-- What a round of two syncs promises, of every heap and records that it may lead from and to (this project's own).
use Rattle.std.specs.Prelude.{ℕ, ◌≡◌, ◌-◌, ◌^◌, ◌↔◌, ◌⊎◌, List, IsErrOf, OnOk, Result}
use Rattle.heap_model.specs.declared.record.Record.{Record}
use Rattle.heap_model.specs.declared.record.UndoRecord.{UndoRecord}
use Rattle.heap_model.specs.Setting.{Setting}
use Rattle.block_disk.specs.Device.{Device}
use Rattle.block_disk.specs.Images.{Always, LeavesOnly}
use Rattle.image_parts.specs.declared.lane_row.LaneRow.{LaneRow}
use Rattle.image_parts.specs.declared.layout.Layout.{Layout}
use Rattle.store_image.specs.Promises.{TakesStep}
use Rattle.store_image.specs.declared.committed.Committed.{Committed}
use Rattle.heap_model.specs.declared.store_error.StoreError.{StoreError}
use Rattle.heap_model.specs.declared.store_error.StoreError.TheVariants.{Worn}
use Rattle.store_helper_sections.specs.Going.{from_heap}
use Rattle.store_helper_sections.specs.Image.{ShowsHeap}
use Rattle.store_round_image.specs.Turning.{IsHeapOn, MayTurn}
use Rattle.store_round_image.specs.declared.cells.HomeValue.{HomeValue}

-- the image shows the heap, with these live records, by a control with these rows
pub record ShowsBy (l : Layout) (s : Setting) (records : List (ℕ × Record)) (rows : List LaneRow) (image : List ℕ) : Type 0 where
  pub heap : ShowsHeap l s records image
  pub rows_are : heap.control.rows ≡ rows

-- the image shows the one heap with its records by these rows, or the other with the later ones by those
abbrev pub ShowsEitherHeap : Layout → Setting → (records : List (ℕ × Record)) → List LaneRow → (heap : ℕ → ℕ) → (later : List (ℕ × Record)) → List LaneRow → List ℕ → Type 0
ShowsEitherHeap l s records old heap later new image = ShowsBy l s records old image ⊎ ShowsBy l (from_heap s heap) later new image

-- `turn_round`: the new heap counts, with the later records. `c` is the control that counts before the call and `x` the device, `c'` and `y` are those
-- after it. A new image is one that a crash during the call may leave, and that a crash before it couldn't have left.
pub record TurnsRound {D T : Type 0} (device : D → Device) (l : Layout) (cells : List HomeValue) (from : List LaneRow) (fresh : ℕ → List UndoRecord) (rows : List LaneRow)
    (c : Committed) (x : D) (c' : Committed) (y : D) (result : Result T StoreError) : Type 0 where
  -- It is a step.
  pub step : TakesStep device l c x c' y result
  -- After a success the device shows the new heap, with the later records.
  pub ok : (s : Setting) (records : List (ℕ × Record)) (heap : ℕ → ℕ) (later : List (ℕ × Record)) → MayTurn l s records heap later c (device x) cells from fresh rows →
      OnOk result (IsHeapOn l (from_heap s heap) later c' (device y))
  -- After a success the control has the given rows.
  pub rows_are : OnOk result (c'.rows ≡ rows)
  -- `Worn` is answered exactly where the control's sequence is at its last value.
  pub worn : IsErrOf result Worn ↔ (c.sequence ≡ 2 ^ 64 - 1)
  -- Each new image shows the old heap or the new one.
  pub any_moment : (s : Setting) (records : List (ℕ × Record)) (heap : ℕ → ℕ) (later : List (ℕ × Record)) → MayTurn l s records heap later c (device x) cells from fresh rows →
      LeavesOnly (device x) (device y) (ShowsEitherHeap l s records c.rows heap later rows)
  -- After the call a crash leaves an image that shows the old heap or the new one, however the call ends.
  pub crash : (s : Setting) (records : List (ℕ × Record)) (heap : ℕ → ℕ) (later : List (ℕ × Record)) → MayTurn l s records heap later c (device x) cells from fresh rows →
      Always (device y) (ShowsEitherHeap l s records c.rows heap later rows)
