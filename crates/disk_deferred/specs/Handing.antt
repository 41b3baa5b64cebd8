-- What may be handed over when (this project's own).
use Rattle.std.specs.Prelude.{◌≡◌, ◌≤◌, ◌⊎◌, List, [], ◌∷◌, length}
use Rattle.disk_deferred.specs.declared.call.DeviceCall.{DeviceCall}
use Rattle.disk_deferred.specs.declared.call.DeviceCall.TheVariants.{Write, Sync}
use Rattle.disk_deferred.specs.declared.call.Handed.{Handed}
use Rattle.disk_deferred.specs.declared.call.Handed.TheVariants.{Begun, Calls}
use Rattle.disk_deferred.specs.declared.call.TheConstants.{MOST_BYTES}

-- a buffer of MOST_BYTES has room for what the call writes
abbrev pub IsSmall : DeviceCall → Type 0
IsSmall (Write at bytes) = length bytes.items ≤ MOST_BYTES
IsSmall Sync = Unit {0}

-- writes of MOST_BYTES at most, and then a sync
abbrev pub AreToSync : List DeviceCall → Type 0
AreToSync [] = ⊥
AreToSync (Write at bytes ∷ later) = (length bytes.items ≤ MOST_BYTES) × AreToSync later
AreToSync (Sync ∷ later) = later ≡ []

-- what is left of such calls
abbrev pub AreLeft : List DeviceCall → Type 0
AreLeft calls = (calls ≡ []) ⊎ AreToSync calls

-- the device with its first bytes comes first, and then the calls up to a sync, each time
abbrev pub MayHand : (before : List Handed) → Handed → Type 0
MayHand before (Begun found) = before ≡ []
MayHand before (Calls calls) = AreToSync calls.items
