-- A moment parts a run in two: each crash came by then, or since (this project's own).
use Rattle.std.specs.Prelude.{ℕ, ◌⊎◌, List}
use Rattle.block_disk.specs.Device.{Device}
use Rattle.durable.specs.Moments.{LeftUpTo}
use Rattle.law_survival.specs.WholeRun.{MayBeLeft}

-- What a crash left at some moment since the first device, it left up to when that was the one between, or since then.
abbrev pub SidesLaw : Type 0
SidesLaw = (first between last : Device) (image : List ℕ) → MayBeLeft first last image → LeftUpTo first between last image ⊎ MayBeLeft between last image
