use Rattle.std.proofs.Common.{◌≤◌, ◌-◌}
use Rattle.block_disk.specs.Device.{SameMoments}
use Rattle.image_parts.specs.Blocks.{HasEach}
use Rattle.image_parts.proofs.guard_rows.check_guards.Given as goal

abbrev pub invariant-loop-first : goal.invariant-loop-first
invariant-loop-first g l = record {
  within : l.first ≤ l.layout.fields;
  read : HasEach l.layout l.first (g.D.Disk.device l.initial.disk).now.bytes;
  same : SameMoments (g.D.Disk.device l.initial.disk) (g.D.Disk.device l.disk);
  later : (g.D.Disk.device l.initial.disk).failures ≤ (g.D.Disk.device l.disk).failures;
}

abbrev pub decreases-loop-first : goal.decreases-loop-first
decreases-loop-first g l = l.layout.fields - l.first
