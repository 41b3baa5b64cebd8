-- The record that a disk in memory keeps of its writes and syncs.
use Rattle.std.specs.Prelude.{◌≡◌, ◌⊎◌, Bool, ℕ, ◌<◌, List, [], ◌∷◌, length, fold, All, if◌then◌else◌}
use Rattle.block_disk.specs.Memory.{Stop, Wrote, WriteFailed, Synced, SyncFailed, Fits, HasJustFailed, bytes_after}
use Rattle.block_disk.specs.declared.call.Call.{Call}
use Rattle.block_disk.specs.declared.call.Call.TheVariants.{Write, ShortWrite, FailedWrite, Sync, FailedSync}

-- the stop that a kept call is
abbrev pub stop_of : Call → Stop
stop_of (Write at bytes) = Wrote at bytes.items
stop_of (ShortWrite at bytes) = Wrote at bytes
stop_of (FailedWrite at len) = WriteFailed at len
stop_of Sync = Synced
stop_of FailedSync = SyncFailed

-- the stops of these calls, which are kept the oldest first
abbrev pub stops_of : List Call → List Stop
stops_of calls = fold (λ older call. stop_of call ∷ older) [] calls

-- each of them lies within a disk of this size
abbrev pub AllFit : ℕ → List Call → Type 0
AllFit size calls = All (λ call. Fits size (stop_of call)) calls

-- the stops once a call was kept, or left out
abbrev pub kept_or_not : Bool → Stop → List Call → List Stop
kept_or_not kept stop calls = if kept then stop ∷ stops_of calls else stops_of calls

-- calls that lay within a disk still do, if this one does
abbrev pub StillFit : Stop → (old new : List Call) → Type 0
StillFit stop old new = (size : ℕ) → Fits size stop → AllFit size old → AllFit size new

-- the bytes that read are those that the calls make of the first ones, and each call lies within the disk
pub record IsKept (first bytes : List ℕ) (calls : List Call) : Type 0 where
  pub reads : bytes ≡ bytes_after first (stops_of calls)
  pub fits : AllFit (length first) calls

-- there is room for one call more, unless the newest one has failed and took it
abbrev pub HasSpare : List Stop → ℕ → ℕ → Type 0
HasSpare stops len capacity = HasJustFailed stops ⊎ (len < capacity)
