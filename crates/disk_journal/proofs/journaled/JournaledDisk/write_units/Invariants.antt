use Rattle.std.proofs.Common.{◌≡◌, ◌+◌, ◌-◌, ◌*◌, ◌≤◌, true, length, drop}
use Rattle.block_disk.specs.Device.{written_units, unit_ranges}
use Rattle.block_disk.specs.Images.{Always, ImageBut, LeavesOnly}
use Rattle.disk_journal.specs.Disks.{SameBelow}
use Rattle.disk_journal.proofs.journaled.JournaledDisk.write_units.Given as goal

-- the writes that are left make of the disk what all of them make of it as it was, and the device below stays
abbrev pub invariant-loop-i : goal.invariant-loop-i
invariant-loop-i g l = record {
  rest : written_units (l.count - l.i) (l.at + l.i * 16) (drop (l.i * 16) l.units) l.self.device ≡ written_units l.count l.at l.units l.initial.self.device;
  size : length l.self.device.now.bytes ≡ length l.initial.self.device.now.bytes;
  failures : l.self.device.failures ≡ l.initial.self.device.failures;
  crash : Always l.self.device (ImageBut l.initial.self.device (unit_ranges l.count l.at));
  any_moment : LeavesOnly l.initial.self.device l.self.device (ImageBut l.initial.self.device (unit_ranges l.count l.at));
  below : SameBelow l.initial.self l.self;
  waiting : l.self.waiting ≤ l.initial.self.waiting + l.i * 4;
  stamp : l.self.stamp ≡ l.initial.self.stamp;
  over : l.initial.self.is_over ≡ true → l.i ≡ 0;
}
