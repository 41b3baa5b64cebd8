-- The bytes of a disk that was opened or made, and how they lie on the device (this project's own).
use Rattle.std.specs.Prelude.{◌≡◌, ℕ, Bool, true, false, List}
use Rattle.block_disk.specs.Device.{Device}
use Rattle.disk_sectors.specs.declared.opening.Found.{Found}
use Rattle.disk_sectors.specs.declared.size.SectorSize.{SectorSize}
use Rattle.disk_sectors.specs.Places.{shown}
use Rattle.disk_sectors.specs.Turns.{IsKeptDurable}

-- the disk that was found lies on the device, durably
abbrev pub LiesOn : SectorSize → Found → Device → Type 0
LiesOn size found d = IsKeptDurable size found.gate.is_firm found.gate.turn found.fresh found.stale found.image.items d

-- the disk of this image lies on the device, durably, by its first area
abbrev pub IsLaid : SectorSize → (fresh stale : List Bool) → (image : List ℕ) → Device → Type 0
IsLaid size fresh stale image d = IsKeptDurable size true false fresh stale image d

-- the image is what the device stands for, a disk of so many sectors
abbrev pub IsShown : SectorSize → (count : ℕ) → (image : List ℕ) → Device → Type 0
IsShown size count image d = image ≡ shown size count d.now.bytes
