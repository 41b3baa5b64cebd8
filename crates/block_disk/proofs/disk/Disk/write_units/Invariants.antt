use Rattle.std.proofs.Common.{◌≡◌, ◌+◌, ◌-◌, ◌*◌, length, drop}
use Rattle.block_disk.specs.Device.{written_units, unit_ranges}
use Rattle.block_disk.specs.Images.{Always, ImageBut, LeavesOnly}
use Rattle.block_disk.proofs.disk.Disk.write_units.Given as goal

-- the writes that are left make of the device what all of them make of it as it was
abbrev pub invariant-loop-i : goal.invariant-loop-i
invariant-loop-i g l = record {
  rest : written_units (l.count - l.i) (l.at + l.i * 16) (drop (l.i * 16) l.bytes) (g.Self.Disk.device l.self) ≡ written_units l.count l.at l.bytes (g.Self.Disk.device l.initial.self);
  size : length (g.Self.Disk.device l.self).now.bytes ≡ length (g.Self.Disk.device l.initial.self).now.bytes;
  failures : (g.Self.Disk.device l.self).failures ≡ (g.Self.Disk.device l.initial.self).failures;
  crash : Always (g.Self.Disk.device l.self) (ImageBut (g.Self.Disk.device l.initial.self) (unit_ranges l.count l.at));
  any_moment : LeavesOnly (g.Self.Disk.device l.initial.self) (g.Self.Disk.device l.self) (ImageBut (g.Self.Disk.device l.initial.self) (unit_ranges l.count l.at));
}
