-- Which sectors of a device can be read (this project's own). A byte is a number below 256. A sector is read whole or not at all: one that can't
-- be has a number past 255 in its first place.
use Rattle.std.specs.Prelude.{ℕ, ◌≤◌, List, slice_index}

-- the sector can't be read
abbrev pub IsLost : List ℕ → Type 0
IsLost sector = 256 ≤ slice_index sector 0
