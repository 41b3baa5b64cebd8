-- How many bytes a sector has, and where the sectors of a device lie (this project's own).
use Rattle.std.specs.Prelude.{ℕ, ◌*◌, List, replicate}
use Rattle.block_disk.specs.Bytes.{part}
use Rattle.disk_sectors.specs.declared.size.SectorSize.{SectorSize}
use Rattle.disk_sectors.specs.declared.size.SectorSize.TheVariants.{Bytes512, Bytes4096}

-- so many bytes
abbrev pub bytes_in : SectorSize → ℕ
bytes_in Bytes512 = 512
bytes_in Bytes4096 = 4096

-- where a sector begins; places count bytes, sectors are numbered from 0
abbrev pub place_of : SectorSize → ℕ → ℕ
place_of size number = number * bytes_in size

-- what a sector holds
abbrev pub sector : SectorSize → ℕ → List ℕ → List ℕ
sector size number image = part (place_of size number) (bytes_in size) image

-- the bytes of so many sectors of zeros
abbrev pub zeros_in : SectorSize → (count : ℕ) → List ℕ
zeros_in size count = replicate (place_of size count) 0
