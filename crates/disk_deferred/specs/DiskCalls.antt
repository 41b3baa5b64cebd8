-- What the calls of a deferred disk make of the device that it is, and what they leave where they are refused or fail (this project's own).
use Rattle.std.specs.Prelude.{◌≡◌, ℕ, ◌+◌, ◌<◌, ◌≤◌, List, length, IsErrOf, Result}
use Rattle.block_disk.specs.Device.{SameMoments, unit_ranges, written, written_units}
use Rattle.block_disk.specs.Since.{CountsOneMore, HasFailedSince, IsSameOrTorn, LeavesBut}
use Rattle.block_disk.specs.declared.error.DiskError.{DiskError}
use Rattle.block_disk.specs.declared.error.DiskError.TheVariants.{OutOfRange}
use Rattle.disk_deferred.specs.Deferred.{Deferred, deferred_device}

-- so many bytes at this place lie within the disk
abbrev pub LiesWithin : (at : ℕ) → List ℕ → Deferred → Type 0
LiesWithin at bytes d = at + length bytes ≤ length (deferred_device d).now.bytes

-- they reach past its end
abbrev pub IsBeyond : (at : ℕ) → List ℕ → Deferred → Type 0
IsBeyond at bytes d = length (deferred_device d).now.bytes < at + length bytes

-- a read is out of range only where it reaches past the end, and it changes neither what was to take the bytes nor the device
abbrev pub RefusesRead : {T : Type 0} → (at : ℕ) → (out out' : List ℕ) → (old new : Deferred) → Result T DiskError → Type 0
RefusesRead at out out' old new result =
    IsErrOf result OutOfRange → IsBeyond at out old × (out' ≡ out) × (deferred_device new ≡ deferred_device old)

-- a write is out of range only where it reaches past the end, and it leaves the device as it was
abbrev pub RefusesWrite : {T : Type 0} → (at : ℕ) → List ℕ → (old new : Deferred) → Result T DiskError → Type 0
RefusesWrite at bytes old new result = IsErrOf result OutOfRange → IsBeyond at bytes old × (deferred_device new ≡ deferred_device old)

-- the write of these bytes is the device's latest moment
abbrev pub HasWritten : (at : ℕ) → List ℕ → (old new : Deferred) → Type 0
HasWritten at bytes old new = deferred_device new ≡ written at bytes (deferred_device old)

-- so many writes of 16 bytes each are its latest moments
abbrev pub HasWrittenUnits : (count at : ℕ) → List ℕ → (old new : Deferred) → Type 0
HasWrittenUnits count at units old new = deferred_device new ≡ written_units count at units (deferred_device old)

-- a crash at each moment of the calls leaves an image that one before might have left, but for the bytes of so many units
abbrev pub LeavesButUnits : (count at : ℕ) → (old new : Deferred) → Type 0
LeavesButUnits count at old new = LeavesBut (unit_ranges count at) (deferred_device old) (deferred_device new)

-- the device is at the same moment, and only its count of failures may have grown
abbrev pub HasSameMoments : (old new : Deferred) → Type 0
HasSameMoments old new = SameMoments (deferred_device old) (deferred_device new)

-- a write of these bytes that fails leaves the device as it was, or any bytes in their range
abbrev pub IsSameOrTornBy : (at : ℕ) → List ℕ → (old new : Deferred) → Type 0
IsSameOrTornBy at bytes old new = IsSameOrTorn at (length bytes) (deferred_device old) (deferred_device new)

-- the device has failed since
abbrev pub FailsSince : (old new : Deferred) → Type 0
FailsSince old new = HasFailedSince (deferred_device old) (deferred_device new)

-- it counts one failure more
abbrev pub CountsFailure : (old new : Deferred) → Type 0
CountsFailure old new = CountsOneMore (deferred_device old) (deferred_device new)
