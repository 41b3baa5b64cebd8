-- A call of the device that the host couldn't make (this project's own).
use Rattle.std.specs.Prelude.{◌≡◌, List, [], ◌∷◌, Option, Some, None}
use Rattle.disk_deferred.specs.declared.call.DeviceCall.{DeviceCall}
use Rattle.disk_deferred.specs.declared.call.DeviceCall.TheVariants as calls
use Rattle.host_heap.specs.Hosting.{Hosting}
use Rattle.host_heap.specs.declared.error.FailedCall.{FailedCall}
use Rattle.host_heap.specs.declared.error.FailedCall.TheVariants.{Write, Sync}

-- which of the calls that are left the host was given: the first
abbrev pub failed_call : List DeviceCall → Option FailedCall
failed_call [] = None
failed_call (calls.Write at bytes ∷ later) = Some Write
failed_call (calls.Sync ∷ later) = Some Sync

-- nothing of the heap has changed but for what its word says
pub record HasTold (x y : Hosting) : Type 0 where
  pub home : y.home ≡ x.home
  pub helper : y.helper ≡ x.helper
  pub calls : y.calls ≡ x.calls
  pub unused : y.unused ≡ x.unused
  pub out : y.out ≡ x.out
  pub word : y.stop.word ≡ x.stop.word
