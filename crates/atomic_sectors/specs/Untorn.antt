-- Writes that are stored whole or not at all (this project's own).
use Rattle.std.specs.Prelude.{◌≡◌, ℕ}
use Rattle.block_disk.specs.Device.{Device}
use Rattle.block_disk.specs.Since.{IsSameOrTorn}

-- a write of n bytes that fails leaves what reads as it was
abbrev pub IsUntorn : (at n : ℕ) → (old new : Device) → Type 0
IsUntorn at n old new = IsSameOrTorn at n old new × (new.now.bytes ≡ old.now.bytes)
