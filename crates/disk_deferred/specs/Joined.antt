-- How the writes of a disk are told to its host: one that goes on where the last one ended is told with it (this project's own).
use Rattle.std.specs.Prelude.{ℕ, zero, suc, ◌+◌, ◌*◌, ◌==◌, ◌≡◌, ◌≤◌, ◌⊎◌, ◌&&◌, nat_le, if◌then◌else◌, Bool, true, false, List, [], ◌∷◌, ◌++◌, length, take, drop}
use Rattle.block_disk.specs.Memory.{Stop, Wrote, WriteFailed, Synced, SyncFailed, Fits}
use Rattle.disk_deferred.specs.declared.call.TheConstants.{MOST_BYTES}

-- a write of so many more bytes at this place goes on where that stop ended, and both together have MOST_BYTES at most
abbrev pub goes_on_with : Stop → (at more : ℕ) → Bool
goes_on_with (Wrote from bytes) at more = (from + length bytes == at) && nat_le (length bytes + more) MOST_BYTES
goes_on_with (WriteFailed from len) at more = false
goes_on_with Synced at more = false
goes_on_with SyncFailed at more = false

-- the write of its bytes and then of these too
abbrev pub longer : Stop → List ℕ → Stop
longer (Wrote from bytes) more = Wrote from (bytes ++ more)
longer (WriteFailed from len) more = WriteFailed from len
longer Synced more = Synced
longer SyncFailed more = SyncFailed

-- each of them is a write of MOST_BYTES at most
abbrev pub AreShortWrites : List Stop → Type 0
AreShortWrites [] = Unit {0}
AreShortWrites (Wrote at bytes ∷ older) = (length bytes ≤ MOST_BYTES) × AreShortWrites older
AreShortWrites (WriteFailed at len ∷ older) = ⊥
AreShortWrites (Synced ∷ older) = ⊥
AreShortWrites (SyncFailed ∷ older) = ⊥

-- these calls, the newest first, and one more write: as one with the newest, if it goes on where that ended
abbrev pub join_write : (at : ℕ) → List ℕ → List Stop → List Stop
join_write at more [] = Wrote at more ∷ []
join_write at more (newest ∷ older) = if goes_on_with newest at (length more) then longer newest more ∷ older else Wrote at more ∷ newest ∷ older

-- these calls, and n more writes of 16 bytes each, each at the end of the one before
abbrev pub join_units : (n at : ℕ) → List ℕ → List Stop → List Stop
join_units zero at bytes calls = calls
join_units (suc n) at bytes calls = join_units n (at + 16) (drop 16 bytes) (join_write at (take 16 bytes) calls)

-- the newest call takes n writes of 16 bytes here, or not even one
abbrev pub TakesAllOrNone : (n at : ℕ) → List Stop → Type 0
TakesAllOrNone n at [] = Unit {0}
TakesAllOrNone n at (newest ∷ older) = (goes_on_with newest at (n * 16) ≡ true) ⊎ (goes_on_with newest at 16 ≡ false)

-- the write, with these bytes after its own if there was memory for them
abbrev pub longer_if : (is_kept : Bool) → Stop → List ℕ → Stop
longer_if k stop more = if k then longer stop more else stop

-- these calls, and one more
abbrev pub join : Stop → List Stop → List Stop
join (Wrote at more) calls = join_write at more calls
join (WriteFailed at len) calls = WriteFailed at len ∷ calls
join Synced calls = Synced ∷ calls
join SyncFailed calls = SyncFailed ∷ calls

-- the calls that these stops are told as, both the newest first
abbrev pub joined : List Stop → List Stop
joined [] = []
joined (stop ∷ older) = join stop (joined older)

-- the newest call is a sync, if there is one
abbrev pub IsAtSync : List Stop → Type 0
IsAtSync [] = Unit {0}
IsAtSync (Wrote at bytes ∷ older) = ⊥
IsAtSync (WriteFailed at len ∷ older) = ⊥
IsAtSync (Synced ∷ older) = Unit {0}
IsAtSync (SyncFailed ∷ older) = ⊥

-- these stops up to the last sync
abbrev pub at_sync : List Stop → List Stop
at_sync [] = []
at_sync (Wrote at bytes ∷ older) = at_sync older
at_sync (WriteFailed at len ∷ older) = at_sync older
at_sync (Synced ∷ older) = Synced ∷ older
at_sync (SyncFailed ∷ older) = at_sync older

-- each of them lies within a device of this size
abbrev pub AllFit : ℕ → List Stop → Type 0
AllFit size [] = Unit {0}
AllFit size (stop ∷ older) = Fits size stop × AllFit size older
