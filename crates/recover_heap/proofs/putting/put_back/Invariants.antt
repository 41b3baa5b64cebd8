use Rattle.std.proofs.Common.{◌≡◌, ◌≤◌, All, length, take}
use Rattle.std.specs.Prelude.{slice_index}
use Rattle.block_disk.specs.Images.{Always, ImageBut, LeavesOnly}
use Rattle.image_parts.specs.Calls.{after}
use Rattle.image_parts.specs.Cells.{HasCell}
use Rattle.recover_heap.specs.Putting.{cell_ranges, put_calls}
use Rattle.recover_heap.proofs.putting.put_back.Given as goal

abbrev pub invariant-loop-field : goal.invariant-loop-field
invariant-loop-field g l = record {
  made : g.D.Disk.device l.disk ≡ after (put_calls l.layout l.heap (take l.field-index l.undone)) (g.D.Disk.device l.initial.disk);
  has : All (λ f. HasCell l.layout f.0 (g.D.Disk.device l.disk).now.bytes (slice_index l.heap f.0)) (take l.field-index l.undone);
  size : length (g.D.Disk.device l.disk).now.bytes ≡ length (g.D.Disk.device l.initial.disk).now.bytes;
  later : (g.D.Disk.device l.initial.disk).failures ≤ (g.D.Disk.device l.disk).failures;
  crash : Always (g.D.Disk.device l.disk) (ImageBut (g.D.Disk.device l.initial.disk) (cell_ranges l.layout l.undone));
  any_moment : LeavesOnly (g.D.Disk.device l.initial.disk) (g.D.Disk.device l.disk) (ImageBut (g.D.Disk.device l.initial.disk) (cell_ranges l.layout l.undone));
}
