-- What a call on one sector does (this project's own). Below, `device` is what a device of sectors reads and what a crash may leave of it.
use Rattle.std.specs.Prelude.{◌≡◌, ℕ, ◌+◌, ◌*◌, ◌<◌, ◌≤◌, List, length, replicate}
use Rattle.block_disk.specs.Device.{Device, written}
use Rattle.block_disk.specs.Since.{IsSameOrTorn}
use Rattle.disk_sectors.specs.declared.size.SectorSize.{SectorSize}
use Rattle.disk_sectors.specs.Readable.{IsLost}
use Rattle.disk_sectors.specs.Size.{bytes_in, place_of, sector}

-- the device has a sector of this number
abbrev pub HasSector : SectorSize → (number : ℕ) → Device → Type 0
HasSector size number d = place_of size number + bytes_in size ≤ length d.now.bytes

-- the device has no whole sector after the first so many
abbrev pub HasNoMore : SectorSize → (count : ℕ) → Device → Type 0
HasNoMore size count d = length d.now.bytes < count * bytes_in size + bytes_in size

-- the device has lost this sector: it can't be read
abbrev pub Loses : SectorSize → (number : ℕ) → Device → Type 0
Loses size number d = IsLost (sector size number d.now.bytes)

-- the device once this sector can't be read any more
abbrev pub sector_lost : SectorSize → (number : ℕ) → Device → Device
sector_lost size number d = written (place_of size number) (replicate (bytes_in size) 256) d

-- a write of these bytes in this sector, and no other call
abbrev pub PutsSector : {A : Type 0} → (device : A → Device) → SectorSize → (number : ℕ) → List ℕ → (old new : A) → Type 0
PutsSector device size number bytes old new = device new ≡ written (place_of size number) bytes (device old)

-- a write of them that fails: the device is as it was, or any bytes stand in this sector
abbrev pub Tears : {A : Type 0} → (device : A → Device) → SectorSize → (number : ℕ) → List ℕ → (old new : A) → Type 0
Tears device size number bytes old new = IsSameOrTorn (place_of size number) (length bytes) (device old) (device new)
