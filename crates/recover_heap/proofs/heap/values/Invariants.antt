use Rattle.std.proofs.Common.{ℕ, ◌≡◌, ◌<◌, ◌≤◌, length, slice_index, None}
use Rattle.std.specs.Prelude.{slice_index_or, vec_capacity}
use Rattle.block_disk.specs.Device.{SameMoments}
use Rattle.image_parts.specs.Cells.{HasHome}
use Rattle.undo_log.specs.StandsFor.{row_in}
use Rattle.recover_heap.specs.Heap.{IsOldOrHome}
use Rattle.recover_heap.proofs.heap.values.Given as goal

abbrev pub invariant-loop-field : goal.invariant-loop-field
invariant-loop-field g l = record {
  count : length l.heap.items ≡ l.field;
  within : l.field ≤ l.layout.fields;
  room : l.layout.fields ≤ vec_capacity l.heap;
  each : (f : ℕ) → f < l.field → IsOldOrHome (slice_index_or l.before f None) (HasHome l.layout (row_in l.guards f) f (g.D.Disk.device l.initial.disk).now.bytes) (slice_index l.heap.items f);
  same : SameMoments (g.D.Disk.device l.initial.disk) (g.D.Disk.device l.disk);
  later : (g.D.Disk.device l.initial.disk).failures ≤ (g.D.Disk.device l.disk).failures;
}
