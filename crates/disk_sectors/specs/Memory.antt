-- A device of sectors in memory (this project's own).
use Rattle.block_disk.specs.Device.{Device}
use Rattle.disk_sectors.specs.declared.size.SectorSize.{SectorSize}

-- the device that it is, and how many bytes a sector has
pub record Memory : Type 0 where
  pub device : Device
  pub size : SectorSize
