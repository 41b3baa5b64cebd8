-- The host's end: the calls that it has made, and those that it was handed and is yet to make (this project's own).
use Rattle.std.specs.Prelude.{ℕ, suc, ◌≡◌, ◌<◌, Bool, true, List, [], ◌∷◌, ◌++◌, length, drop, Option, Vec, MatchOption, IsSomeAnd}
use Rattle.std.specs.Global.{Global}
use Rattle.rtrb.specs.declared.consumer.Consumer.{Consumer}
use Rattle.rtrb.specs.Ring.{ConsumerLooked, known_items, received}
use Rattle.block_disk.specs.Device.{Image, LeftSince}
use Rattle.block_disk.specs.Memory.{Stop, moment_after}
use Rattle.disk_deferred.specs.declared.call.DeviceCall.{DeviceCall}
use Rattle.disk_deferred.specs.declared.call.Handed.{Handed}
use Rattle.disk_deferred.specs.declared.handing.Handing.{Handing}
use Rattle.disk_deferred.specs.Deferred.{Deferred, calls_in, deferred_device, onto, stop_of, stops_in}
use Rattle.disk_deferred.specs.Handing.{AreLeft}
use Rattle.disk_deferred.specs.Joined.{joined}
use Rattle.disk_deferred.specs.Names.{name_of}
use Rattle.disk_deferred.specs.Syncs.{LeftAt, durable_moments, moments_of, syncs_in}

-- the host: the stops of the calls that it has made, the newest first, the calls that it has yet to make, the oldest first, and its end of the ring
pub record Host : Type 0 where
  pub made : List Stop
  pub left : List DeviceCall
  pub ring : Consumer Handed Global Handing

-- the name of the device whose calls these are
abbrev pub host_name : Host → List ℕ
host_name h = name_of h.ring.end

-- the two ends of one disk: the calls are those of this device
abbrev pub IsHostOf : Deferred → Host → Type 0
IsHostOf d h = (deferred_device d).name ≡ host_name h

-- what the host knows of is what it made, and then what is left
abbrev pub made_of : List Handed → List DeviceCall → List Stop
made_of handed left = drop (length left) (stops_in handed)

abbrev pub IsInOrder : List Handed → List DeviceCall → Type 0
IsInOrder handed left = onto (made_of handed left) left ≡ stops_in handed

-- so it is, what is left goes on to a sync, and the host has taken what the disk began with
pub record IsTaking (handed : List Handed) (left : List DeviceCall) : Type 0 where
  pub order : IsInOrder handed left
  pub to_sync : AreLeft left
  pub begun : 0 < length handed

-- a look at the ring: no call is made or fetched
pub record HasLooked (x y : Host) : Type 0 where
  pub made : y.made ≡ x.made
  pub left : y.left ≡ x.left
  pub ring : ConsumerLooked x.ring y.ring

-- A fetch makes no call. What is left of the batch before stays; where none is, the calls of the next batch are left, and where none is left
-- then, none is known to have been handed over.
pub record Fetches (x y : Host) : Type 0 where
  -- A fetch makes no call.
  pub made : y.made ≡ x.made
  -- A fetch keeps the calls that are left, if there are some.
  pub left : ¬ (x.left ≡ []) → y ≡ x
  -- Where no call is left, a fetch takes the next batch that is known to be in the ring, whole.
  pub takes : (next : Handed) (more : List Handed) → x.left ≡ [] → known_items x.ring ≡ next ∷ more → y.left ≡ calls_in next
  -- Where no call is left after a fetch, none is known to be in the ring.
  pub empty : y.left ≡ [] → known_items y.ring ≡ []

-- A disk and its host have met: the host has made the first of the calls that the disk's writes and syncs are told as, and those that are
-- left come next.
pub record HaveMet (d : Deferred) (h : Host) : Type 0 where
  pub later : List DeviceCall
  -- What the host has made, what it has left and what comes later are the disk's own calls, in order and none twice.
  pub order : joined d.memory.stops ≡ onto (onto h.made h.left) later
  -- What a crash leaves of the host's device, with some more calls made, is what a crash might have left of the disk at
  -- some moment.
  pub earlier : (next more : List DeviceCall) (image : List ℕ) → h.left ≡ next ++ more → Image (moment_after d.memory.first (onto h.made next)) image → LeftSince 0 (deferred_device d) image
  -- That moment is the last one before the disk was synced once more than the host's device was by then.
  pub synced : (next more : List DeviceCall) (image : List ℕ) → h.left ≡ next ++ more → Image (moment_after d.memory.first (onto h.made next)) image
      → LeftAt (suc (syncs_in (onto h.made next))) (moments_of (deferred_device d)) image
  -- Where the host has made all that was handed over, its device was synced as often as the disk.
  pub all : h.left ≡ [] → known_items h.ring ≡ [] → durable_moments (moments_of (deferred_device d)) ≡ suc (syncs_in h.made)

-- where a call is left, the host makes the first
abbrev pub MakesFirst : (old new : Host) → (is_made : Bool) → Type 0
MakesFirst old new k = (call : DeviceCall) (later : List DeviceCall) → old.left ≡ call ∷ later → (k ≡ true) × (new.left ≡ later) × (new.made ≡ stop_of call ∷ old.made)

-- a batch is taken from the ring, or none
abbrev pub TakesBatch : (old new : Consumer Handed Global Handing) → Option (Vec DeviceCall Global) → Type 0
TakesBatch old new result = MatchOption result (stops_in (received new) ≡ stops_in (received old)) (λ calls. stops_in (received new) ≡ onto (stops_in (received old)) calls.items)

-- where a batch is known to be in the ring, its calls are given
abbrev pub GivesKnown : Consumer Handed Global Handing → Option (Vec DeviceCall Global) → Type 0
GivesKnown old result = (next : Handed) (more : List Handed) → known_items old ≡ next ∷ more → IsSomeAnd result (λ calls. calls.items ≡ calls_in next)

-- this call is the first of these
abbrev pub IsFirst : DeviceCall → List DeviceCall → Type 0
IsFirst call calls = (later : List DeviceCall) × (calls ≡ call ∷ later)
