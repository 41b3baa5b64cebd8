-- The calls that a heap's host makes by giving them to a journal (this project's own).
use Rattle.std.specs.Prelude.{ℕ, ◌≡◌, List, [], ◌∷◌, ◌++◌, length, take}
use Rattle.block_disk.specs.Device.{Device, Moment}
use Rattle.block_disk.specs.Memory.{Stop, Synced, bytes_after, moment_after, moments_before}
use Rattle.disk_deferred.specs.Deferred.{stop_of}
use Rattle.disk_deferred.specs.Joined.{AllFit}
use Rattle.disk_deferred.specs.Syncs.{moments_of}
use Rattle.disk_deferred.specs.declared.call.DeviceCall.{DeviceCall}

-- What a journal was given since its last sync, and all calls that its host has made, both with the newest first. By the end of that sync the host
-- had made `synced`.
pub data GivenSince (synced : List Stop) : (given made : List Stop) → Type 0 where
  -- Nothing was given since.
  AtSync : GivenSince synced [] synced
  -- The host has made a call of its heap's by giving it to the journal.
  Makes : (call : DeviceCall) (given made : List Stop) → GivenSince synced given made → GivenSince synced (stop_of call ∷ given) (stop_of call ∷ made)
  -- A sync was given that doesn't count as made: it is given again, as a call of the journal's has failed, or counts once these are made.
  Besides : (given made : List Stop) → GivenSince synced given made → GivenSince synced (Synced ∷ given) made

-- A journal was given the calls that its host has made for a heap's disk of these first bytes. So many moments of the journal's heap (`Hosted`) came
-- before the end of its last sync.
pub record WasGiven (first : List ℕ) (synced made : List Stop) (heap : Device) (base : ℕ) : Type 0 where
  -- what the journal's heap read at that end, what was given since, and the moments before
  pub bytes : List ℕ
  pub given : List Stop
  pub older : List Moment
  -- At the end of the last sync the disk's bytes were as the calls made by then leave them. What follows them is the rest of the journal's last page.
  pub reads : take (length first) bytes ≡ bytes_after first synced
  -- Since then the journal was given the calls made since, in order, none left out, and besides them nothing but syncs.
  pub since : GivenSince synced given made
  -- What was given made the moments of the journal's heap since then.
  pub moments : moments_of heap ≡ (moment_after bytes given ∷ moments_before bytes given) ++ older
  pub last : base ≡ length older
  -- Each call lies within the heap's disk.
  pub fits : AllFit (length first) made
