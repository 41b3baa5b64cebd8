-- The marks of an area: which of its sectors may hold something else than the image does (this project's own).
use Rattle.std.specs.Prelude.{◌≡◌, ◌⊎◌, ℕ, ◌<◌, ◌≤◌, Bool, true, false, List, [], ◌∷◌, length, slice_index_or, Vec}
use Rattle.std.specs.Global.{Global}
use Rattle.block_disk.specs.Images.{IsApart}
use Rattle.disk_sectors.specs.declared.size.SectorSize.{SectorSize}
use Rattle.disk_sectors.specs.Places.{Reads}
use Rattle.disk_sectors.specs.Size.{bytes_in, place_of}

-- there is such a sector, and it isn't marked
abbrev pub IsUnmarked : List Bool → ℕ → Type 0
IsUnmarked marks i = slice_index_or marks i true ≡ false

-- what isn't marked now wasn't before, and none of these bytes lies in it
abbrev pub MarksBytes : SectorSize → (at len : ℕ) → (old new : List Bool) → Type 0
MarksBytes size at len old new =
    (i : ℕ) → IsUnmarked new i → IsUnmarked old i × IsApart (place_of size i) (bytes_in size) (record { start = at; len = len } ∷ [])

-- what isn't marked now wasn't before, and is none of these sectors
abbrev pub MarksFrom : (from to : ℕ) → (old new : List Bool) → Type 0
MarksFrom from to old new = (i : ℕ) → IsUnmarked new i → IsUnmarked old i × ((i < from) ⊎ (to ≤ i))

-- Areas that read the old image by the old marks, whatever lies on the device and whosever turn it is, read the new one by the new marks.
abbrev pub StillRead : SectorSize → (fresh stale : List Bool) → Vec ℕ Global → (fresh' stale' : List Bool) → Vec ℕ Global → Type 0
StillRead size fresh stale image fresh' stale' image' =
    (turn : Bool) (on : List ℕ) → Reads size (length fresh) turn fresh stale image.items on → Reads size (length fresh) turn fresh' stale' image'.items on
