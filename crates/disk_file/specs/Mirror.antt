-- A disk whose bytes are kept in a file too (this project's own).
use Rattle.std.specs.Prelude.{List, ◌++◌, Option}
use Rattle.block_disk.specs.Device.{Device, Range}
use Rattle.disk_file.specs.Backing.{Held, KeepsBut}

-- the disk: the device that it is, and what its file holds, where that is known
pub record Mirror : Type 0 where
  pub device : Device
  pub file : Option Held

-- of what the disk has read and not written since the last sync, the file's device lacks only bytes in these ranges
abbrev pub LacksIn : List Range → Mirror → Type 0
LacksIn stale m = KeepsBut (m.device.now.pending ++ stale) m.device.now.bytes m.file

-- it lacks no more than before
abbrev pub LacksNoMore : (old new : Mirror) → Type 0
LacksNoMore old new = (stale : List Range) → LacksIn stale old → LacksIn stale new
