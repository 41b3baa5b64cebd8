-- What calls over a device of sectors leave alone: sectors have `before` bytes as they begin and `after` bytes as they end (this
-- project's own).
use Rattle.std.specs.Prelude.{◌≡◌, ℕ, Bool, List, [], ◌∷◌, length}
use Rattle.block_disk.specs.Device.{Range, Device, SameMoments}
use Rattle.block_disk.specs.Since.{LeavesBut, ReadsSameBut}
use Rattle.disk_sectors.specs.Places.{one_sector, sectors_from}
use Rattle.disk_sectors.specs.Turns.{its_sectors}
use Rattle.disk_sectors.specs.declared.size.SectorSize.{SectorSize}

-- calls that write in these ranges and nowhere else
pub record WritesOnly (ranges : List Range) (before after : SectorSize) (old new : Device) : Type 0 where
  -- Sectors have as many bytes as before.
  pub size : after ≡ before
  -- What reads is as before, outside of these ranges.
  pub same : ReadsSameBut ranges old new
  -- At each moment a crash leaves an image that one before the calls might have left, but for the bytes in these ranges.
  pub leaves : LeavesBut ranges old new

-- calls that write nothing
pub record ReadsOnly (before after : SectorSize) (old new : Device) : Type 0 where
  -- Sectors have as many bytes as before.
  pub size : after ≡ before
  -- The device is at the same moment, and only its count of failures may have grown.
  pub same : SameMoments old new

-- In what follows, `device` is what a device of sectors reads and what a crash may leave of it, and `of_size` how many bytes a sector has.

-- calls that write this sector and nothing else
abbrev pub WritesSector : {A : Type 0} → (device : A → Device) → (of_size : A → SectorSize) → SectorSize → (number : ℕ) → (old new : A) → Type 0
WritesSector device of_size size number old new = WritesOnly (one_sector size number ∷ []) size (of_size new) (device old) (device new)

-- calls that write the gate and nothing else
abbrev pub WritesGate : {A : Type 0} → (device : A → Device) → (of_size : A → SectorSize) → SectorSize → (old new : A) → Type 0
WritesGate device of_size size old new = WritesSector device of_size size 1 old new

-- calls that write an area and nothing else: as many sectors as there are marks, from the first one on
abbrev pub WritesArea : {A : Type 0} → (device : A → Device) → (of_size : A → SectorSize) → SectorSize → (first : ℕ) → (marks : List Bool) → (old new : A) → Type 0
WritesArea device of_size size first marks old new =
    WritesOnly (sectors_from size first (length marks) ∷ []) size (of_size new) (device old) (device new)

-- calls that write the sectors of a disk in two places and nothing else: its label, its gate and two areas of as many sectors as there are marks
abbrev pub WritesPlaces : {A : Type 0} → (device : A → Device) → (of_size : A → SectorSize) → SectorSize → (marks : List Bool) → (old new : A) → Type 0
WritesPlaces device of_size size marks old new =
    WritesOnly (its_sectors size (length marks) ∷ []) size (of_size new) (device old) (device new)

-- calls that only read
abbrev pub OnlyReads : {A : Type 0} → (device : A → Device) → (of_size : A → SectorSize) → SectorSize → (old new : A) → Type 0
OnlyReads device of_size size old new = ReadsOnly size (of_size new) (device old) (device new)
