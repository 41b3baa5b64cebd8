-- A disk over a device of sectors, as clauses see it (this project's own).
use Rattle.std.specs.Prelude.{ℕ}
use Rattle.block_disk.specs.Device.{Device}
use Rattle.disk_sectors.specs.declared.size.SectorSize.{SectorSize}

-- the disk: the device that it is, the device that its sectors are, how many bytes a sector has, and how many sectors the disk
pub record Layered : Type 0 where
  pub device : Device
  pub sectors : Device
  pub size : SectorSize
  pub count : ℕ
