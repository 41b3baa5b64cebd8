-- A disk in memory: the device that its writes and syncs make of its first bytes (this project's own).
use Rattle.std.specs.Prelude.{◌≡◌, ◌⊎◌, ℕ, zero, suc, ◌+◌, ◌-◌, ◌^◌, ◌<◌, ◌≤◌, List, [], ◌∷◌, length, take, drop, min, Option, Some, None, nat_le, if◌then◌else◌}
use Rattle.block_disk.specs.Bytes.{spliced}
use Rattle.block_disk.specs.Device.{Range, Moment, Device, range_of}

-- A write or a sync that was asked for, lists of them the newest first. One that failed stored or fixed nothing.
pub data Stop : Type 0 where
  Wrote : (at : ℕ) (bytes : List ℕ) → Stop
  WriteFailed : (at len : ℕ) → Stop
  Synced : Stop
  SyncFailed : Stop

-- the disk: the bytes that it was made with, its stops since, how often it has failed, and which call from now on is to fail (1: the next)
pub record Memory : Type 0 where
  pub first : List ℕ
  pub stops : List Stop
  pub failures : ℕ
  pub fails_in : Option ℕ

-- a disk of these bytes that nothing was asked of yet
abbrev pub fresh : List ℕ → Memory
fresh bytes = record { first = bytes; stops = []; failures = 0; fails_in = None }

-- what reads after these stops
abbrev pub bytes_after : List ℕ → List Stop → List ℕ
bytes_after first [] = first
bytes_after first (Wrote at bytes ∷ older) = spliced (bytes_after first older) at bytes
bytes_after first (WriteFailed at len ∷ older) = bytes_after first older
bytes_after first (Synced ∷ older) = bytes_after first older
bytes_after first (SyncFailed ∷ older) = bytes_after first older

-- the ranges written since the last sync that succeeded; a write that failed counts
abbrev pub pending_after : List Stop → List Range
pending_after [] = []
pending_after (Wrote at bytes ∷ older) = range_of at bytes ∷ pending_after older
pending_after (WriteFailed at len ∷ older) = record { start = at; len = len } ∷ pending_after older
pending_after (Synced ∷ older) = []
pending_after (SyncFailed ∷ older) = pending_after older

-- what read at the last sync that succeeded, or at first
abbrev pub durable_after : List ℕ → List Stop → List ℕ
durable_after first [] = first
durable_after first (Wrote at bytes ∷ older) = durable_after first older
durable_after first (WriteFailed at len ∷ older) = durable_after first older
durable_after first (Synced ∷ older) = bytes_after first older
durable_after first (SyncFailed ∷ older) = durable_after first older

-- the device's moment after these stops
abbrev pub moment_after : List ℕ → List Stop → Moment
moment_after first stops = record { bytes = bytes_after first stops; pending = pending_after stops }

-- its moments before that, the latest first; a sync that failed has begun none
abbrev pub moments_before : List ℕ → List Stop → List Moment
moments_before first [] = []
moments_before first (Wrote at bytes ∷ older) = moment_after first older ∷ moments_before first older
moments_before first (WriteFailed at len ∷ older) = moment_after first older ∷ moments_before first older
moments_before first (Synced ∷ older) = moment_after first older ∷ moments_before first older
moments_before first (SyncFailed ∷ older) = moments_before first older

-- the device that the disk is; disks in memory have no names of their own
abbrev pub device_of : Memory → Device
device_of m = record { name = []; now = moment_after m.first m.stops; past = moments_before m.first m.stops; failures = m.failures }

-- the next call is the one to fail
abbrev pub IsDue : Memory → Type 0
IsDue m = m.fails_in ≡ Some 1

-- which call is to fail once one more was made
abbrev pub next_failure : Option ℕ → Option ℕ
next_failure None = None
next_failure (Some k) = if nat_le k 1 then None else Some (k - 1)

-- the disk once one more call was made
abbrev pub called : Memory → Memory
called m = record m { fails_in = next_failure m.fails_in }

-- the disk once one more call has failed; the count of failures stays at its last value
abbrev pub failed : Memory → Memory
failed m = record m { failures = min (m.failures + 1) (2 ^ 64 - 1); fails_in = next_failure m.fails_in }

-- the disk with one more stop
abbrev pub stopped : Stop → Memory → Memory
stopped stop m = record m { stops = stop ∷ m.stops }

-- these stops, and n more writes of 16 bytes each, one right behind the other
abbrev pub units_onto : (n at : ℕ) → List ℕ → List Stop → List Stop
units_onto zero at bytes stops = stops
units_onto (suc n) at bytes stops = units_onto n (at + 16) (drop 16 bytes) (Wrote at (take 16 bytes) ∷ stops)

-- the newest stop has failed
abbrev pub HasJustFailed : List Stop → Type 0
HasJustFailed [] = ⊥
HasJustFailed (Wrote at bytes ∷ older) = ⊥
HasJustFailed (WriteFailed at len ∷ older) = Unit {0}
HasJustFailed (Synced ∷ older) = ⊥
HasJustFailed (SyncFailed ∷ older) = Unit {0}

-- the disk once a call that was chosen to fail couldn't be kept: it has failed, and the next call is the one to fail
abbrev pub put_off : Memory → Memory
put_off m = record m { failures = min (m.failures + 1) (2 ^ 64 - 1) }

-- a call that was chosen to fail has failed: it is this stop; right behind another stop that failed it may be none, and the next call is chosen
abbrev pub FailsAsChosen : Stop → Memory → Memory → Type 0
FailsAsChosen stop old new = (new ≡ stopped stop (failed old)) ⊎ (HasJustFailed old.stops × (new ≡ put_off old))

-- a write of n bytes fails: as it was chosen to, or because it can't be kept; beyond the disk it is no stop
pub record FailsWrite (at n : ℕ) (old new : Memory) : Type 0 where
  pub wanting : (IsDue old → ⊥) → new ≡ failed old
  pub beyond : IsDue old → length (bytes_after old.first old.stops) < at + n → new ≡ failed old
  pub chosen : IsDue old → at + n ≤ length (bytes_after old.first old.stops) → FailsAsChosen (WriteFailed at n) old new

-- a sync fails: as it was chosen to, or because it can't be kept
pub record FailsSync (old new : Memory) : Type 0 where
  pub wanting : (IsDue old → ⊥) → new ≡ failed old
  pub chosen : IsDue old → FailsAsChosen SyncFailed old new

-- the stop lies within a disk of this size
abbrev pub Fits : ℕ → Stop → Type 0
Fits size (Wrote at bytes) = at + length bytes ≤ size
Fits size (WriteFailed at len) = at + len ≤ size
Fits size Synced = Unit {0}
Fits size SyncFailed = Unit {0}
