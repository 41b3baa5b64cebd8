-- What calls keep of a disk in two places, by its gate before them and its gate after them (this project's own). Below, `device` is what a
-- device of sectors reads and what a crash may leave of it; a disk has as many sectors as there are marks.
use Rattle.std.specs.Prelude.{◌≡◌, ℕ, Bool, true, false, List, length, OnOk, Result}
use Rattle.block_disk.specs.Device.{Device, Moment}
use Rattle.disk_sectors.specs.declared.gate.Gate.{Gate}
use Rattle.disk_sectors.specs.declared.size.SectorSize.{SectorSize}
use Rattle.disk_sectors.specs.Places.{Reads, area}
use Rattle.disk_sectors.specs.Turns.{KeepsHolding, KeepsImage, KeepsShowing, KeepsShowingImage, MakesDurable}

-- a gate of the same turn, where the one on the device may say either
abbrev pub unsure : Gate → Gate
unsure gate = record { turn = gate.turn; is_firm = false }

-- what the device stood for by the old gate, it stands for by the new one
abbrev pub HoldsOn : {A : Type 0} → (device : A → Device) → SectorSize → (gate gate' : Gate) → (old new : A) → Type 0
HoldsOn device size gate gate' old new = KeepsHolding size gate.is_firm gate.turn gate'.is_firm gate'.turn (device old) (device new)

-- and a crash at each moment of the calls leaves what stands for it, of however many sectors
abbrev pub ShowsOn : {A : Type 0} → (device : A → Device) → SectorSize → Gate → (old new : A) → Type 0
ShowsOn device size gate old new = (count : ℕ) → KeepsShowing size count gate.is_firm gate.turn (device old) (device new)

-- the same of a disk of so many sectors, by a gate that is firm
abbrev pub ShowsFirm : {A : Type 0} → (device : A → Device) → SectorSize → (marks : List Bool) → Gate → (old new : A) → Type 0
ShowsFirm device size marks gate old new = KeepsShowing size (length marks) true gate.turn (device old) (device new)

-- the areas of a disk of as many sectors as `marks` has lie on the device and read this image, where `fresh` and `stale` have no mark
abbrev pub LieOn : SectorSize → (marks : List Bool) → Gate → (fresh stale : List Bool) → (image : List ℕ) → Device → Type 0
LieOn size marks gate fresh stale image d = Reads size (length marks) gate.turn fresh stale image d.now.bytes

-- the area whose turn it is holds this image
abbrev pub HasTurn : SectorSize → (marks : List Bool) → Gate → (image : List ℕ) → Device → Type 0
HasTurn size marks gate image d = area size (length marks) gate.turn d.now.bytes ≡ image

-- what the device stood for by the old gate, a disk that reads this image, it stands for by the new one
abbrev pub Keeps : {A : Type 0} → (device : A → Device) → SectorSize → (marks : List Bool) → (image : List ℕ) → (gate gate' : Gate) → (old new : A) → Type 0
Keeps device size marks image gate gate' old new =
    KeepsImage size (length marks) image gate.is_firm gate.turn gate'.is_firm gate'.turn (device old) (device new)

-- the same where the old gate is firm
abbrev pub Turns : {A : Type 0} → (device : A → Device) → SectorSize → (marks : List Bool) → (image : List ℕ) → (gate gate' : Gate) → (old new : A) → Type 0
Turns device size marks image gate gate' old new =
    KeepsImage size (length marks) image true gate.turn gate'.is_firm gate'.turn (device old) (device new)

-- a crash at each moment of the calls leaves what stands for what the device stood for by the old gate, a disk that reads this image
abbrev pub ShowsImage : {A : Type 0} → (device : A → Device) → SectorSize → (marks : List Bool) → (image : List ℕ) → Gate → (old new : A) → Type 0
ShowsImage device size marks image gate old new = KeepsShowingImage size (length marks) image gate.is_firm gate.turn (device old) (device new)

-- where the calls succeed, what the disk reads at a moment at which it reads this image becomes durable
abbrev pub Settles : {A T E : Type 0} → (device : A → Device) → SectorSize → (marks : List Bool) → (image : List ℕ) → (gate gate' : Gate) → (old new : A) → Result T E → Type 0
Settles device size marks image gate gate' old new result = (label : List ℕ) (m : Moment)
    → OnOk result (m.bytes ≡ image → MakesDurable size (length marks) gate.is_firm gate.turn gate'.is_firm gate'.turn label m (device old) (device new))
