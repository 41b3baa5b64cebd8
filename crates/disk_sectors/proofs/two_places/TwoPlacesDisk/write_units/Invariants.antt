use Rattle.std.proofs.Common.{◌≡◌, ◌+◌, ◌-◌, ◌*◌, length, drop}
use Rattle.block_disk.specs.Device.{written_units}
use Rattle.disk_sectors.proofs.two_places.TwoPlacesDisk.write_units.Given as goal

-- the writes that are left make of the disk what all of them make of it as it was
abbrev pub invariant-loop-i : goal.invariant-loop-i
invariant-loop-i g l = record {
  rest : written_units (l.count - l.i) (l.at + l.i * 16) (drop (l.i * 16) l.units) l.self.device ≡ written_units l.count l.at l.units l.initial.self.device;
  long : length l.self.device.now.bytes ≡ length l.initial.self.device.now.bytes;
  sectors : l.self.sectors ≡ l.initial.self.sectors;
  count : (l.self.size ≡ l.initial.self.size) × (l.self.count ≡ l.initial.self.count);
}
