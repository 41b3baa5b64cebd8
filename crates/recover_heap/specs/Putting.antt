-- What putting old values back does to the device (this project's own).
use Rattle.std.specs.Prelude.{ℕ, List, map, slice_index, All}
use Rattle.std.specs.Int.{to_be_bytes, w64}
use Rattle.heap_model.specs.declared.ids.FieldId.{FieldId}
use Rattle.block_disk.specs.Device.{Device, Range, written}
use Rattle.image_parts.specs.Calls.{Call, Write}
use Rattle.image_parts.specs.Cells.{HasCell}
use Rattle.image_parts.specs.Cells.{cell_range}
use Rattle.image_parts.specs.Layout.{cell_at}
use Rattle.image_parts.specs.declared.layout.Layout.{Layout}

-- the bytes of these fields' home cells
abbrev pub cell_ranges : Layout → List FieldId → List Range
cell_ranges l fields = map (λ f. cell_range l f.0) fields

-- a write of each of these fields' home cells, with its value of the heap
abbrev pub put_calls : Layout → (heap : List ℕ) → List FieldId → List Call
put_calls l heap fields = map (λ f. Write (cell_at l f.0) (to_be_bytes w64 (slice_index heap f.0))) fields

-- the device after a write of the field's home cell, with its value of the heap
abbrev pub put_on : Layout → (heap : List ℕ) → FieldId → Device → Device
put_on l heap f d = written (cell_at l f.0) (to_be_bytes w64 (slice_index heap f.0)) d

-- the field has its value of the heap in its home cell
abbrev pub IsPut : Layout → (heap image : List ℕ) → FieldId → Type 0
IsPut l heap image f = HasCell l f.0 image (slice_index heap f.0)

-- so has each of these fields
abbrev pub ArePut : Layout → (heap image : List ℕ) → List FieldId → Type 0
ArePut l heap image fields = All (λ f. HasCell l f.0 image (slice_index heap f.0)) fields
