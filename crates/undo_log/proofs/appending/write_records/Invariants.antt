use Rattle.std.proofs.Common.{◌≡◌, ◌≤◌, ◌-◌, length, take}
use Rattle.block_disk.specs.Images.{Always, ImageBut, LeavesOnly}
use Rattle.image_parts.specs.Calls.{after}
use Rattle.undo_log.specs.Area.{record_ranges, record_writes}
use Rattle.undo_log.proofs.appending.write_records.Given as goal

abbrev pub invariant-loop-done : goal.invariant-loop-done
invariant-loop-done g l = record {
  within : l.done ≤ length l.records;
  made : g.D.Disk.device l.disk ≡ after (record_writes l.layout l.lane.0 l.place (take l.done l.records)) (g.D.Disk.device l.initial.disk);
  crash : Always (g.D.Disk.device l.disk) (ImageBut (g.D.Disk.device l.initial.disk) (record_ranges l.layout l.lane.0 l.place (length l.records)));
  any_moment : LeavesOnly (g.D.Disk.device l.initial.disk) (g.D.Disk.device l.disk) (ImageBut (g.D.Disk.device l.initial.disk) (record_ranges l.layout l.lane.0 l.place (length l.records)));
  later : (g.D.Disk.device l.initial.disk).failures ≤ (g.D.Disk.device l.disk).failures;
}

abbrev pub decreases-loop-done : goal.decreases-loop-done
decreases-loop-done g l = length l.records - l.done
