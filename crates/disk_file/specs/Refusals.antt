-- What a call of a disk leaves that is refused or fails (this project's own).
use Rattle.std.specs.Prelude.{◌≡◌, ℕ, ◌+◌, ◌<◌, List, length, IsErrOf, Result}
use Rattle.block_disk.specs.Device.{Device}
use Rattle.block_disk.specs.Since.{IsSameOrTorn}
use Rattle.block_disk.specs.declared.error.DiskError.{DiskError}
use Rattle.block_disk.specs.declared.error.DiskError.TheVariants.{OutOfRange}

-- so many bytes at this place reach past the device's end
abbrev pub IsBeyond : (at : ℕ) → List ℕ → Device → Type 0
IsBeyond at bytes d = length d.now.bytes < at + length bytes

-- a read is out of range only where it reaches past the end, and it changes neither what was to take the bytes nor the device
abbrev pub RefusesRead : {T : Type 0} → (at : ℕ) → (out out' : List ℕ) → (old new : Device) → Result T DiskError → Type 0
RefusesRead at out out' old new result = IsErrOf result OutOfRange → IsBeyond at out old × (out' ≡ out) × (new ≡ old)

-- a write is out of range only where it reaches past the end, and it leaves the device as it was
abbrev pub RefusesWrite : {T : Type 0} → (at : ℕ) → List ℕ → (old new : Device) → Result T DiskError → Type 0
RefusesWrite at bytes old new result = IsErrOf result OutOfRange → IsBeyond at bytes old × (new ≡ old)

-- a write of these bytes that fails leaves the device as it was, or any bytes in their range
abbrev pub IsSameOrTornBy : (at : ℕ) → List ℕ → (old new : Device) → Type 0
IsSameOrTornBy at bytes old new = IsSameOrTorn at (length bytes) old new
