-- The label, with which a device of sectors in two places begins (docs/FORMAT.md, "Sectors in two places").
use Rattle.std.specs.Prelude.{◌≡◌, ℕ, ◌^◌, ◌<◌, List, take, [], ◌∷◌, ◌++◌}
use Rattle.std.specs.Int.{to_be_bytes, w64}
use Rattle.block_disk.specs.Device.{Device}
use Rattle.disk_sectors.specs.declared.size.SectorSize.{SectorSize}
use Rattle.disk_sectors.specs.declared.size.SectorSize.TheVariants.{Bytes512, Bytes4096}

-- `MONI0512` or `MONI4096` in ASCII
abbrev pub name_of : SectorSize → List ℕ
name_of Bytes512 = 77 ∷ 79 ∷ 78 ∷ 73 ∷ 48 ∷ 53 ∷ 49 ∷ 50 ∷ []
name_of Bytes4096 = 77 ∷ 79 ∷ 78 ∷ 73 ∷ 52 ∷ 48 ∷ 57 ∷ 54 ∷ []

-- the name of such sectors, and how many the disk has
abbrev pub label_bytes : SectorSize → (count : ℕ) → List ℕ
label_bytes size count = name_of size ++ to_be_bytes w64 count

-- the device begins with this label
abbrev pub HasLabel : SectorSize → (count : ℕ) → Device → Type 0
HasLabel size count d = take 16 d.now.bytes ≡ label_bytes size count

-- these bytes are no label of such sectors
abbrev pub IsNoLabelOf : SectorSize → List ℕ → Type 0
IsNoLabelOf size bytes = (count : ℕ) → count < 2 ^ 64 → bytes ≡ label_bytes size count → ⊥

-- these bytes are no label
abbrev pub IsNoLabel : List ℕ → Type 0
IsNoLabel bytes = (size : SectorSize) → IsNoLabelOf size bytes

-- where these bytes are a label, it tells this number of sectors
abbrev pub TellsCount : List ℕ → (told : ℕ) → Type 0
TellsCount bytes told = (size : SectorSize) (count : ℕ) → count < 2 ^ 64 → bytes ≡ label_bytes size count → told ≡ count
