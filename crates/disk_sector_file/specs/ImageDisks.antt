-- The disk of an image file of each kind, as clauses see it (this project's own).
use Rattle.std.specs.Int.{div_ceil}
use Rattle.std.specs.Prelude.{◌≡◌, ℕ, ◌⊎◌, List, ◌++◌, ◌*◌, Option, IfSome, replicate}
use Rattle.block_disk.specs.Device.{Device, Range, SameOutside}
use Rattle.disk_file.specs.Backing.{HasFound, Held}
use Rattle.disk_file.specs.Mirror.{LacksIn}
use Rattle.disk_sectors.specs.declared.size.SectorSize.{SectorSize}
use Rattle.disk_sectors.specs.Size.{bytes_in, place_of}
use Rattle.disk_sector_file.specs.FileLabels.{HasNoJournal, IsBehind}
use Rattle.disk_sector_file.specs.declared.image_bytes.ImageBytes.{ImageBytes}
use Rattle.disk_sector_file.specs.declared.image_bytes.ImageBytes.TheVariants as images
use Rattle.disk_sector_file.specs.declared.image_disk.ImageDisk.{ImageDisk}
use Rattle.disk_sector_file.specs.declared.image_disk.ImageDisk.TheVariants as disks
use Rattle.disk_sector_file.specs.declared.image_kind.ImageKind.{ImageKind}
use Rattle.disk_sector_file.specs.declared.image_kind.ImageKind.TheVariants as kinds

-- the device that it is
abbrev pub device_on : {F : Type 0} → ImageDisk F → Device
device_on (disks.Plain disk) = disk.device
device_on (disks.Placed disk) = disk.device
device_on (disks.Journaled disk) = disk.device

-- of what was read of a plain file, its device lacks no more than it did, without the bytes in these ranges
abbrev pub LacksAsFound : {F : Type 0} → List Range → (was : Option Held) → ImageDisk F → Type 0
LacksAsFound places was (disks.Plain disk) = IfSome was (λ h. (stale : List Range) → SameOutside (places ++ stale) h.reads h.kept.bytes → LacksIn stale disk)
LacksAsFound places was _ = Unit {0}

-- of a plain file only the bytes in these ranges were written
abbrev pub IsFoundBy : {F : Type 0} → List Range → (was : Option Held) → ImageDisk F → Type 0
IsFoundBy places was (disks.Plain disk) = HasFound places was disk.file
IsFoundBy places was _ = Unit {0}

-- behind a journal, its bytes are the image that the file stands for, which read so; else there is no journal in the file
abbrev pub IsFoundBehind : {F : Type 0} → (reads : List ℕ) → ImageDisk F → Type 0
IsFoundBehind reads (disks.Journaled disk) = IsBehind reads disk.device.now.bytes
IsFoundBehind reads _ = HasNoJournal reads

-- the same of the bytes of an image, of which none was read yet
abbrev pub IsLookedBehind : {F : Type 0} → (reads : List ℕ) → ImageBytes F → Type 0
IsLookedBehind reads (images.Journaled bytes) = IsBehind reads bytes.disk.device.now.bytes × (bytes.at ≡ 0)
IsLookedBehind reads _ = HasNoJournal reads

-- and of all its bytes
abbrev pub IsReadBehind : (reads : List ℕ) → (image : List ℕ) → Type 0
IsReadBehind reads image = IsBehind reads image ⊎ HasNoJournal reads

-- how it lies
abbrev pub kind_on : {F : Type 0} → ImageDisk F → ImageKind
kind_on (disks.Plain disk) = kinds.Plain
kind_on (disks.Placed disk) = kinds.Placed disk.size
kind_on (disks.Journaled disk) = kinds.Journaled

-- how many sectors take so many bytes
abbrev pub sectors_for : SectorSize → ℕ → ℕ
sectors_for size len = div_ceil len (bytes_in size)

-- how many pages of 4,096 bytes take so many
abbrev pub pages_for : ℕ → ℕ
pages_for len = div_ceil len 4096

-- how many bytes a disk has that is made for so many
abbrev pub room_for : ImageKind → ℕ → ℕ
room_for kinds.Plain len = len
room_for (kinds.Placed size) len = place_of size (sectors_for size len)
room_for kinds.Journaled len = pages_for len * 4096

-- the bytes of a disk of zeros that is made for so many
abbrev pub zeros_for : ImageKind → ℕ → List ℕ
zeros_for kind len = replicate (room_for kind len) 0
