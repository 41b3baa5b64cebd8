-- What C's calls do where a call of the device couldn't be made, and once a heap has stopped since (this project's own).
use Rattle.std.specs.Prelude.{ℕ, ◌≡◌, Bool, Option, Some, None, IsSome}
use Rattle.host_heap.specs.Failing.{failed_call}
use Rattle.host_heap.specs.Hosting.{Hosting}
use Rattle.host_heap.specs.Sessions.{HasLookedAt, HasLookedWaiting, Seated, SeatedWaiting}
use Rattle.host_heap.specs.Stopping.{Stopping}
use Rattle.host_heap.specs.declared.error.FailedCall.{FailedCall}
use Rattle.host_heap.specs.declared.error.FailedCall.TheVariants.{Write, Sync}
use Rattle.zelamiku.specs.Own.{Held}
use Rattle.zelamiku.specs.Handles.{OfDevice, closed_held, heap_held, session_held, stopped_held, waiting_held}
use Rattle.zelamiku.specs.declared.state.Open.{Open}
use Rattle.zelamiku.specs.declared.status.TheConstants.{NONE_LEFT, OK, STOPPED}

-- Where it has seen that it has, the status says so, and what was there stays; else it makes the call.
abbrev pub UnlessSeen : (seen : Option Bool) (there : Held) (call : Held → ℕ → Type 0) (after : Held) (status : ℕ) → Type 0
UnlessSeen None there call after status = call after status
UnlessSeen (Some written) there call after status = (status ≡ STOPPED) × (after ≡ there)

-- a call that a session makes unless it sees that its heap has stopped
abbrev pub UnlessStopped : (Seated → Held → ℕ → Type 0) → Seated → Held → ℕ → Type 0
UnlessStopped p s after status = (u : Seated) × HasLookedAt s u × UnlessSeen u.stop.seen (session_held u) (p u) after status

-- and one that waits
abbrev pub UnlessStoppedWaiting : (SeatedWaiting → Held → ℕ → Type 0) → SeatedWaiting → Held → ℕ → Type 0
UnlessStoppedWaiting p w after status = (v : SeatedWaiting) × HasLookedWaiting w v
    × UnlessSeen v.stop.seen (waiting_held v) (p v) after status

-- What the handle has once a call couldn't be made. After a write it has what it had, because the write may be made again. After a sync it has
-- what is left of a heap that has stopped, because no call may follow.
abbrev pub AfterFailure : Option FailedCall → (there : Held) (stopped : Held → Type 0) (after : Held) (status : ℕ) → Type 0
AfterFailure None there stopped after status = (status ≡ NONE_LEFT) × (after ≡ there)
AfterFailure (Some Write) there stopped after status = (status ≡ OK) × (after ≡ there)
AfterFailure (Some Sync) there stopped after status = (status ≡ STOPPED) × stopped after

-- of a heap that ran the word is left by which its sessions learn of it, and it is written
pub record LeavesWord (x : Hosting) (after : Held) : Type 0 where
  pub stop : Stopping
  pub word : stop.word ≡ x.stop.word
  pub written : IsSome stop.seen
  pub left : after ≡ stopped_held (Some stop)

-- of one that was closed nothing is, as it has no session
abbrev pub LeavesNothing : (after : Held) → Type 0
LeavesNothing after = after ≡ stopped_held None

-- `zelamiku_call_failed`
abbrev pub FailsCallAt : Open → (after : Held) → (status : ℕ) → Type 0
FailsCallAt = OfDevice
    (λ x after status. AfterFailure (failed_call x.calls.left) (heap_held x) (LeavesWord x) after status)
    (λ x after status. AfterFailure (failed_call x.calls.left) (closed_held x) LeavesNothing after status)
