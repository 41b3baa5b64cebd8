-- What a session answers by what it has seen of a stop.
use Rattle.std.proofs.Common.{◌≡◌, ℕ, Bool, true, false, Option, Some, None, refl, subst}
use Rattle.std.specs.Option.{is_some}
use Rattle.host_heap.specs.Failing.{failed_call}
use Rattle.host_heap.specs.Hosting.{Hosting}
use Rattle.host_heap.specs.declared.error.FailedCall.{FailedCall}
use Rattle.zelamiku.specs.Handles.{heap_held}
use Rattle.zelamiku.specs.Own.{Held}
use Rattle.zelamiku.specs.StopDoors.{AfterFailure, FailsCallAt, LeavesWord, UnlessSeen}
use Rattle.zelamiku.specs.declared.state.Open.TheVariants as kind
use Rattle.zelamiku.specs.declared.status.TheConstants.{STOPPED}

pub seen_stop : (seen : Option Bool) (there : Held) (call : Held → ℕ → Type 0) → is_some seen ≡ true → UnlessSeen seen there call there STOPPED
seen_stop None there call is = absurd cc
seen_stop (Some written) there call is = (refl, refl)

pub unseen_stop : (seen : Option Bool) (there : Held) (call : Held → ℕ → Type 0) (after : Held) (status : ℕ) → is_some seen ≡ false → call after status
    → UnlessSeen seen there call after status
unseen_stop None there call after status is told = told
unseen_stop (Some written) there call after status is told = absurd cc

-- of the call that is the first of those that are left
pub failed_at : (x : Hosting) (o : Option FailedCall) (after : Held) (status : ℕ) → o ≡ failed_call x.calls.left → AfterFailure o (heap_held x) (LeavesWord x) after status → FailsCallAt (kind.Heap x) after status
failed_at x o after status is told = subst (λ (p : Option FailedCall). AfterFailure p (heap_held x) (LeavesWord x) after status) is told
