use Rattle.std.proofs.Common.{◌≤◌, ◌-◌}
use Rattle.block_disk.specs.Device.{SameMoments}
use Rattle.undo_log.specs.Runs.{IsFull}
use Rattle.undo_log.proofs.reading.check_records.Given as goal

abbrev pub invariant-loop-place : goal.invariant-loop-place
invariant-loop-place g l = record {
  begun : l.from ≤ l.place;
  within : l.place ≤ l.to;
  full : IsFull l.layout l.lane.0 l.from l.place (g.D.Disk.device l.initial.disk).now.bytes;
  same : SameMoments (g.D.Disk.device l.initial.disk) (g.D.Disk.device l.disk);
  later : (g.D.Disk.device l.initial.disk).failures ≤ (g.D.Disk.device l.disk).failures;
}

abbrev pub decreases-loop-place : goal.decreases-loop-place
decreases-loop-place g l = l.to - l.place
