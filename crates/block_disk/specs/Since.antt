-- What calls have made of a device, in one word each: the older device first (this project's own).
use Rattle.std.specs.Prelude.{◌≡◌, ◌⊎◌, ℕ, List, length, Result}
use Rattle.block_disk.specs.Device.{Range, Device, HasCause, HasFailed, SameMoments, SameOutside, TornWrite, one_more}
use Rattle.block_disk.specs.Images.{Always, ImageBut, LeavesOnly}

-- the device has as many bytes as before
abbrev pub SameSize : Device → Device → Type 0
SameSize old new = length new.now.bytes ≡ length old.now.bytes

-- what reads is as before, outside of these ranges
abbrev pub ReadsSameBut : List Range → Device → Device → Type 0
ReadsSameBut ranges old new = SameOutside ranges old.now.bytes new.now.bytes

-- a crash now leaves an image that one before the calls might have left, but for the bytes in these ranges
abbrev pub AlwaysBut : List Range → Device → Device → Type 0
AlwaysBut ranges old new = Always new (ImageBut old ranges)

-- and so does a crash at each moment of the calls
abbrev pub LeavesBut : List Range → Device → Device → Type 0
LeavesBut ranges old new = LeavesOnly old new (ImageBut old ranges)

-- a write of n bytes that fails leaves the device as it was, or any bytes in its range
abbrev pub IsSameOrTorn : (at n : ℕ) → Device → Device → Type 0
IsSameOrTorn at n old new = SameMoments old new ⊎ TornWrite at n old new

-- the device has failed since
abbrev pub HasFailedSince : Device → Device → Type 0
HasFailedSince old new = HasFailed old.failures new.failures

-- it counts one failure more
abbrev pub CountsOneMore : Device → Device → Type 0
CountsOneMore old new = new.failures ≡ one_more old.failures

-- the fault is answered only where the device has failed since
abbrev pub HasCauseSince : {T E : Type 0} → Device → Device → (fault : E) → Result T E → Type 0
HasCauseSince old new fault result = HasCause old.failures new.failures fault result
