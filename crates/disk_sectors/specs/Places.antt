-- A disk in two places on a device of sectors (docs/FORMAT.md, "Sectors in two places"). Sectors are numbered from 0: a label, the gate, and then
-- two areas of as many sectors as the disk has.
use Rattle.std.specs.Prelude.{◌≡◌, ◌⊎◌, ℕ, ◌+◌, ◌≤◌, Bool, true, false, not, List, length, nat_eq, slice_index, slice_index_or}
use Rattle.block_disk.specs.Bytes.{part}
use Rattle.block_disk.specs.Device.{Range, Moment, Device, Image, SameMoments, synced}
use Rattle.block_disk.specs.Images.{Always}
use Rattle.disk_sectors.specs.declared.size.SectorSize.{SectorSize}
use Rattle.disk_sectors.specs.Size.{bytes_in, place_of, sector}

-- the number of an area's first sector: of the second's, if this is true
abbrev pub first_sector : (count : ℕ) → Bool → ℕ
first_sector count false = 2
first_sector count true = count + 2

-- so many sectors, from this one on
abbrev pub sectors_from : SectorSize → (first count : ℕ) → Range
sectors_from size first count = record { start = place_of size first; len = place_of size count }

-- a sector alone
abbrev pub one_sector : SectorSize → ℕ → Range
one_sector size number = record { start = place_of size number; len = bytes_in size }

-- what an area holds
abbrev pub area : SectorSize → (count : ℕ) → Bool → List ℕ → List ℕ
area size count turn image = part (place_of size (first_sector count turn)) (place_of size count) image

-- the gate says whose turn it is: the second area's where its first byte is 1
abbrev pub turn_of : SectorSize → List ℕ → Bool
turn_of size image = nat_eq (slice_index image (place_of size 1)) 1

-- what a device that holds these bytes stands for: what the area holds whose turn it is
abbrev pub shown : SectorSize → (count : ℕ) → List ℕ → List ℕ
shown size count image = area size count (turn_of size image) image

-- the image stands for one that a crash of the disk at this moment may leave, and has this label
pub record Shows (size : SectorSize) (count : ℕ) (label : List ℕ) (m : Moment) (image : List ℕ) : Type 0 where
  pub labelled : sector size 0 image ≡ label
  pub possible : Image m (shown size count image)

-- Of an image of the device: the area whose turn it is stands for one that a crash of the disk may leave; the gate says whose turn it is, and
-- where it may say either, the other area does so too.
pub record Holds (size : SectorSize) (count : ℕ) (is_firm turn : Bool) (label : List ℕ) (m : Moment) (image : List ℕ) : Type 0 where
  pub fits : place_of size (count + count + 2) ≤ length image
  pub labelled : sector size 0 image ≡ label
  pub gate : is_firm ≡ true → turn_of size image ≡ turn
  pub mine : Image m (area size count turn image)
  pub other : is_firm ≡ false → Image m (area size count (not turn) image)

-- the sectors from this one on that aren't marked hold what those of the image do
abbrev pub Matches : SectorSize → (first : ℕ) → (marks : List Bool) → (image bytes : List ℕ) → Type 0
Matches size first marks image bytes = (i : ℕ) → slice_index_or marks i true ≡ false → sector size (first + i) bytes ≡ sector size i image

-- the image has so many sectors, both areas lie on the device, and what isn't marked of each holds what the image does
pub record Reads (size : SectorSize) (count : ℕ) (turn : Bool) (fresh stale : List Bool) (image bytes : List ℕ) : Type 0 where
  pub long : length image ≡ place_of size count
  pub fits : place_of size (count + count + 2) ≤ length bytes
  pub mine : Matches size (first_sector count turn) fresh image bytes
  pub other : Matches size (first_sector count (not turn)) stale image bytes

-- a disk's bytes, and the device under it
pub record IsKept (size : SectorSize) (is_firm turn : Bool) (fresh stale : List Bool) (image : List ℕ) (m : Moment) (d : Device) : Type 0 where
  pub bytes : m.bytes ≡ image
  pub same_count : length stale ≡ length fresh
  pub reads : Reads size (length fresh) turn fresh stale image d.now.bytes
  pub label : List ℕ
  pub crash : Always d (Holds size (length fresh) is_firm turn label m)

-- no sector was written: the device is as it was found, or flushed
abbrev pub IsAsFound : (old new : Device) → Type 0
IsAsFound old new = SameMoments old new ⊎ SameMoments (synced old) new
