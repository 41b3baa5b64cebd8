-- What the calls of a disk in two places keep, and what a crash at any moment of them leaves (this project's own).
use Rattle.std.specs.Prelude.{◌≡◌, ℕ, ◌+◌, ◌<◌, ◌≤◌, Bool, List, [], ◌∷◌, length}
use Rattle.block_disk.specs.Device.{Range, Moment, Device, new_device}
use Rattle.block_disk.specs.Images.{Always, LeavesOnly}
use Rattle.block_disk.specs.Since.{LeavesBut, ReadsSameBut}
use Rattle.disk_sectors.specs.declared.size.SectorSize.{SectorSize}
use Rattle.disk_sectors.specs.Disks.{Layered}
use Rattle.disk_sectors.specs.Places.{Holds, IsKept, Shows, sectors_from, shown}
use Rattle.disk_sectors.specs.Size.{place_of, sector}

-- how many bytes of a device a disk of so many sectors takes: its label, its gate and two areas
abbrev pub room_of : SectorSize → (count : ℕ) → ℕ
room_of size count = place_of size (count + count + 2)

-- the sectors that it takes
abbrev pub its_sectors : SectorSize → (count : ℕ) → Range
its_sectors size count = sectors_from size 0 (count + count + 2)

-- the device has fewer sectors than such a disk takes
abbrev pub LacksRoom : SectorSize → (count : ℕ) → Device → Type 0
LacksRoom size count d = length d.now.bytes < room_of size count

-- it has as many
abbrev pub HasRoom : SectorSize → (count : ℕ) → Device → Type 0
HasRoom size count d = room_of size count ≤ length d.now.bytes

-- what reads is as before, outside of the sectors that such a disk takes
abbrev pub KeepsBeyond : SectorSize → (count : ℕ) → (old new : Device) → Type 0
KeepsBeyond size count old new = ReadsSameBut (its_sectors size count ∷ []) old new

-- the same of a device of sectors, whose sectors have as many bytes as before the calls
abbrev pub KeepsOthers : {A : Type 0} → (device : A → Device) → (of_size : A → SectorSize) → (count : ℕ) → (old new : A) → Type 0
KeepsOthers device of_size count old new = KeepsBeyond (of_size old) count (device old) (device new)

-- a crash at each moment of the calls leaves an image that one before might have left, but for the sectors that such a disk takes
abbrev pub LeavesBeyond : SectorSize → (count : ℕ) → (old new : Device) → Type 0
LeavesBeyond size count old new = LeavesBut (its_sectors size count ∷ []) old new

-- the disk is what the device of sectors stands for, one of so many sectors
abbrev pub IsShownBy : {A : Type 0} → (device : A → Device) → (of_size : A → SectorSize) → (count : ℕ) → A → Device → Type 0
IsShownBy device of_size count sectors disk = disk ≡ new_device (shown (of_size sectors) count (device sectors).now.bytes)

-- the image stands for one that a crash of the disk may leave now, and begins with the device's own label
abbrev pub ShowsDisk : Layered → List ℕ → Type 0
ShowsDisk disk = Shows disk.size disk.count (sector disk.size 0 disk.sectors.now.bytes) disk.device.now

-- the device keeps the disk, which reads this image, and all of it is durable
abbrev pub IsKeptDurable : SectorSize → (is_firm turn : Bool) → (fresh stale : List Bool) → (image : List ℕ) → Device → Type 0
IsKeptDurable size is_firm turn fresh stale image d = IsKept size is_firm turn fresh stale image (record { bytes = image; pending = [] }) d

-- what the device stood for before the calls, by a gate that is firm or not and this turn, it stands for after them
abbrev pub KeepsHolding : SectorSize → (firm turn firm' turn' : Bool) → (old new : Device) → Type 0
KeepsHolding size firm turn firm' turn' old new =
    (count : ℕ) (label : List ℕ) (m : Moment) → Always old (Holds size count firm turn label m) → Always new (Holds size count firm' turn' label m)

-- and a crash at each moment of the calls leaves an image that stands for it
abbrev pub KeepsShowing : SectorSize → (count : ℕ) → (firm turn : Bool) → (old new : Device) → Type 0
KeepsShowing size count firm turn old new =
    (label : List ℕ) (m : Moment) → Always old (Holds size count firm turn label m) → LeavesOnly old new (Shows size count label m)

-- the same of a disk of so many sectors that reads this image
abbrev pub KeepsImage : SectorSize → (count : ℕ) → (image : List ℕ) → (firm turn firm' turn' : Bool) → (old new : Device) → Type 0
KeepsImage size count image firm turn firm' turn' old new =
    (label : List ℕ) (m : Moment) → m.bytes ≡ image → Always old (Holds size count firm turn label m) → Always new (Holds size count firm' turn' label m)

-- and at each moment, too
abbrev pub KeepsShowingImage : SectorSize → (count : ℕ) → (image : List ℕ) → (firm turn : Bool) → (old new : Device) → Type 0
KeepsShowingImage size count image firm turn old new =
    (label : List ℕ) (m : Moment) → m.bytes ≡ image → Always old (Holds size count firm turn label m) → LeavesOnly old new (Shows size count label m)

-- what the disk reads at this moment becomes durable
abbrev pub MakesDurable : SectorSize → (count : ℕ) → (firm turn firm' turn' : Bool) → (label : List ℕ) → Moment → (old new : Device) → Type 0
MakesDurable size count firm turn firm' turn' label m old new =
    Always old (Holds size count firm turn label m) → Always new (Holds size count firm' turn' label (record { bytes = m.bytes; pending = [] }))
