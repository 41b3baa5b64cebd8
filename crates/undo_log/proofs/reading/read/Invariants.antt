use Rattle.std.proofs.Common.{◌≤◌, ◌-◌, ◌+◌, vec_len}
use Rattle.std.specs.Prelude.{vec_capacity}
use Rattle.block_disk.specs.Device.{SameMoments}
use Rattle.undo_log.specs.Area.{HasRecords}
use Rattle.undo_log.proofs.reading.read.Given as goal

abbrev pub invariant-loop-lane : goal.invariant-loop-lane
invariant-loop-lane g l = record {
  within : l.from + vec_len l.records ≤ l.to;
  room : l.to - l.from ≤ vec_capacity l.records;
  read : HasRecords l.layout l.lane.0 l.from (g.D.Disk.device l.initial.disk).now.bytes l.records.items;
  same : SameMoments (g.D.Disk.device l.initial.disk) (g.D.Disk.device l.disk);
  later : (g.D.Disk.device l.initial.disk).failures ≤ (g.D.Disk.device l.disk).failures;
}

abbrev pub decreases-loop-lane : goal.decreases-loop-lane
decreases-loop-lane g l = l.to - l.from - vec_len l.records
