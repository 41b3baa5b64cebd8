-- What an area of a device holds of a disk's image (this project's own): as many sectors as there are marks, from a first one on.
use Rattle.std.specs.Prelude.{◌≡◌, ℕ, ◌+◌, ◌<◌, Bool, List, length}
use Rattle.block_disk.specs.Bytes.{part, spliced}
use Rattle.block_disk.specs.Device.{Device}
use Rattle.disk_sectors.specs.declared.size.SectorSize.{SectorSize}
use Rattle.disk_sectors.specs.Size.{place_of, sector}

-- the area's i-th sector holds what the image's does
abbrev pub SectorHas : SectorSize → (first i : ℕ) → List ℕ → Device → Type 0
SectorHas size first i image d = sector size (first + i) d.now.bytes ≡ sector size i image

-- so does each of its sectors
abbrev pub EachHas : SectorSize → (first : ℕ) → (marks : List Bool) → List ℕ → Device → Type 0
EachHas size first marks image d = (i : ℕ) → i < length marks → SectorHas size first i image d

-- the area holds the image
abbrev pub IsFilled : SectorSize → (first : ℕ) → (marks : List Bool) → List ℕ → Device → Type 0
IsFilled size first marks image d = part (place_of size first) (place_of size (length marks)) d.now.bytes ≡ image

-- the image is what so many sectors hold, from the first one on
abbrev pub IsRead : SectorSize → (first count : ℕ) → List ℕ → Device → Type 0
IsRead size first count image d = image ≡ part (place_of size first) (place_of size count) d.now.bytes

-- the image takes what the area's i-th sector holds as its own
abbrev pub TakesSector : SectorSize → (first i : ℕ) → (old new : List ℕ) → Device → Type 0
TakesSector size first i old new d = new ≡ spliced old (place_of size i) (sector size (first + i) d.now.bytes)
