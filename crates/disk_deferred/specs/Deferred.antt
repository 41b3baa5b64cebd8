-- A disk in memory whose calls the host makes (this project's own).
use Rattle.std.specs.Prelude.{ℕ, ◌≡◌, ◌<◌, Bool, if◌then◌else◌, List, [], ◌∷◌, None, length, fold}
use Rattle.std.specs.Global.{Global}
use Rattle.rtrb.specs.declared.producer.Producer.{Producer}
use Rattle.block_disk.specs.Device.{Device}
use Rattle.block_disk.specs.Memory.{Memory, Stop, Wrote, Synced, bytes_after, device_of, failed, units_onto}
use Rattle.disk_deferred.specs.Joined.{AllFit, AreShortWrites, IsAtSync, TakesAllOrNone, at_sync, join_units, join_write, joined}
use Rattle.disk_deferred.specs.Names.{name_of}
use Rattle.disk_deferred.specs.declared.call.DeviceCall.{DeviceCall}
use Rattle.disk_deferred.specs.declared.call.DeviceCall.TheVariants.{Write, Sync}
use Rattle.disk_deferred.specs.declared.call.Handed.{Handed}
use Rattle.disk_deferred.specs.declared.handing.Handing.{Handing}
use Rattle.disk_deferred.specs.declared.call.Handed.TheVariants.{Begun, Calls}

-- the stop of the disk that the call is
abbrev pub stop_of : DeviceCall → Stop
stop_of (Write at bytes) = Wrote at bytes.items
stop_of Sync = Synced

-- these stops, the newest first, and then those of these calls, the oldest first
abbrev pub onto : List Stop → List DeviceCall → List Stop
onto older calls = fold (λ before call. stop_of call ∷ before) older calls

-- the calls in what was handed over
abbrev pub calls_in : Handed → List DeviceCall
calls_in (Begun found) = []
calls_in (Calls calls) = calls.items

-- the stops of all that was handed over, the newest first
abbrev pub stops_in : List Handed → List Stop
stops_in handed = fold (λ before batch. onto before (calls_in batch)) [] handed

-- the bytes with which it began
abbrev pub first_in : List Handed → List ℕ
first_in [] = []
first_in (Begun found ∷ later) = found.past.device.now.bytes
first_in (Calls calls ∷ later) = []

-- the disk: the memory that it is, and its end of the ring
pub record Deferred : Type 0 where
  pub memory : Memory
  pub ring : Producer Handed Global Handing

-- the device that it is: that of its memory, by the name of its ring
abbrev pub deferred_device : Deferred → Device
deferred_device d = record (device_of d.memory) { name = name_of d.ring.end }

-- the memory of the bytes that were handed over first, and of these stops since
abbrev pub memory_of : List Handed → List Stop → ℕ → Memory
memory_of handed stops failures = record { first = first_in handed; stops = stops; failures = failures; fails_in = None }

-- The bytes are those that the disk reads. The calls that were handed over, and then those that are still kept, are its stops, joined.
-- All up to the last sync was handed over, and ends with that. What is still kept are short writes. Each stop lies within the disk.
-- The device was handed over first.
pub record IsDeferring (handed : List Handed) (unsent : List DeviceCall) (bytes : List ℕ) (stops : List Stop) : Type 0 where
  pub reads : bytes ≡ bytes_after (first_in handed) stops
  pub told : joined stops ≡ onto (stops_in handed) unsent
  pub handed_are : joined (at_sync stops) ≡ stops_in handed
  pub synced : IsAtSync (stops_in handed)
  pub short : AreShortWrites (onto [] unsent)
  pub fits : AllFit (length (first_in handed)) stops
  pub begun : 0 < length handed

-- after any stops that end with a sync, the kept calls are those from before and a write of these bytes, joined; or, for want of memory, those
-- from before
abbrev pub KeepsWrite : (at : ℕ) → List ℕ → (old new : List DeviceCall) → (is_kept : Bool) → Type 0
KeepsWrite at bytes old new k = (before : List Stop) → IsAtSync before → onto before new ≡ (if k then join_write at bytes (onto before old) else onto before old)

-- so for a write that is a call of its own
abbrev pub KeepsCall : (at : ℕ) → List ℕ → (old new : List DeviceCall) → (is_kept : Bool) → Type 0
KeepsCall at bytes old new k = (before : List Stop) → onto before new ≡ (if k then Wrote at bytes ∷ onto before old else onto before old)

-- so for the first n of these units
abbrev pub KeepsUnits : (n at : ℕ) → List ℕ → (old new : List DeviceCall) → Type 0
KeepsUnits n at units old new = (before : List Stop) → IsAtSync before → onto before new ≡ join_units n at units (onto before old)

-- the memory after a write of each of the first n of these units
abbrev pub units_on : (n at : ℕ) → List ℕ → Memory → Memory
units_on n at units m = record m { stops = units_onto n at units m.stops }

-- fewer of these units than all were written, and a call has failed
abbrev pub FailsAmong : (count at : ℕ) → List ℕ → (old new : Memory) → Type 0
FailsAmong count at units old new = (kept : ℕ) × (kept < count) × (new ≡ failed (units_on kept at units old))

-- after any stops that end with a sync, the last of the kept calls takes so many units at this place, or not even one
abbrev pub LastTakes : (n at : ℕ) → List DeviceCall → Type 0
LastTakes n at calls = (before : List Stop) → IsAtSync before → TakesAllOrNone n at (onto before calls)
