-- What is left of a heap that wasn't closed (this project's own).
use Rattle.std.specs.Prelude.{◌≡◌, ◌+◌, ◌<◌, List, [], Err, All, Any, drop, length}
use Rattle.disk_deferred.specs.Deferred.{Deferred}
use Rattle.disk_deferred.specs.Host.{HasLooked, Host}
use Rattle.disk_deferred.specs.declared.disk.TheConstants.{SYNCS}
use Rattle.monitor.specs.Seats.{Home}
use Rattle.rtrb.specs.Ring.{known_items}
use Rattle.trim_helper.specs.Parts.{Parts}
use Rattle.trim_helper.specs.Endings.{IsCloseWhy, IsComplete, IsEnded, IsOfSessions, RefusesClosing}
use Rattle.trim_helper.specs.declared.close_error.CloseError.{CloseError}
use Rattle.trim_helper.specs.declared.close_error.CloseError.TheVariants.{Missing}
use Rattle.trim_helper.specs.declared.ended.Ended.{Ended}
use Rattle.host_heap.specs.Hosting.{HaveMetHelper, Hosting, SameHeap, hosted_device}
use Rattle.host_heap.specs.Lanes.{HasCome, IsAwaited, KeepCome}
use Rattle.host_heap.specs.declared.closing.NotClosed.{NotClosed}
use Rattle.host_heap.specs.declared.closing.NotClosed.TheVariants.{Running, CallsLeft, InUse, Stopped}
use Rattle.host_heap.specs.declared.error.CloseRefusal.{CloseRefusal}
use Rattle.host_heap.specs.declared.error.CloseRefusal.TheVariants.{NoMemory, Close}
use Rattle.host_heap.specs.declared.room.TheConstants.{CLOSE_SYNCS}

-- the heap goes on as it was, but for what it saw come back, which is where it came back
pub record GoesOn (x y : Hosting) : Type 0 where
  pub home : y.home ≡ x.home
  pub helper : y.helper ≡ x.helper
  pub unused : y.unused ≡ x.unused
  -- A session that has come back, and isn't handed out again, stays back.
  pub out : KeepCome x.out y.out
  pub stop : y.stop ≡ x.stop

-- so it does, but that none of its sessions is left to hand out: each has come back, also of those that weren't handed out
pub record GoesOnWithout (x y : Hosting) : Type 0 where
  pub home : y.home ≡ x.home
  pub helper : y.helper ≡ x.helper
  pub unused : y.unused ≡ []
  pub out : KeepCome x.out (drop (length x.unused) y.out)
  -- A heap is answered `InUse` only once each session has come back, and goes on without those that weren't handed
  -- out.
  pub came : All HasCome y.out
  pub stop : y.stop ≡ x.stop

-- Sessions have ended, one a lane, and one of them holds a monitor, with the disk as it was; or the device is the reason. Whatever stops it,
-- what a crash left since shows what store calls made of what the helper served, two of which committed at most: recovery takes it.
pub record StopsBy (h : Home) (x : Parts Deferred) (disk : Deferred) (e : CloseError) : Type 0 where
  pub ended : List Ended
  pub are : All (IsEnded h x.store.known.layout.capacity x.rings) ended
  -- A heap to which each session has come back is never stopped for want of one: one a lane meets the helper.
  pub complete : IsComplete x.store.known.threads ended
  pub refuses : RefusesClosing x.store.known.threads ended e
  -- A closing that the sessions stop leaves the disk as it was.
  pub untouched : IsOfSessions e → disk ≡ x.store.disk
  pub why : IsCloseWhy x.store.known (hosted_device x.store.disk) (hosted_device disk) e
  -- Whatever a crash leaves of the disk after a closing, good or stopped, recovery accepts. Each image shows what store
  -- calls make of what the helper served.
  pub closes : HaveMetHelper h x ended (Err (disk, e))

-- Why the heap has stopped, and its disk then: for want of memory, with the disk as it was; or for a reason of the sessions, or of the device.
-- None is missing.
abbrev pub StopsFor : Home → Parts Deferred → Deferred → CloseRefusal → Type 0
StopsFor h x disk NoMemory = disk ≡ x.store.disk
StopsFor h x disk (Close (Missing lane)) = ⊥
StopsFor h x disk (Close e) = StopsBy h x disk e

-- it has stopped, with the calls of its host as they were
abbrev pub HasStopped : Home → Parts Deferred → Host → NotClosed → Type 0
HasStopped h x calls (Stopped closed e) = (closed.calls ≡ calls) × StopsFor h x closed.disk e
HasStopped h x calls other = ⊥

-- it has, or it is as it was, since somebody has the words
abbrev pub IsNotFinished : Hosting → NotClosed → Type 0
IsNotFinished x (InUse y) = SameHeap x y × (y.calls ≡ x.calls)
IsNotFinished x other = HasStopped x.home x.helper x.calls other

-- Why a heap isn't closed. `Running`: a session that was handed out hasn't come back. `CallsLeft`: the ring hasn't room for the syncs of a closing.
-- `InUse`: somebody has the words though each session has come back. `Stopped`: the heap has stopped, with the calls that its host is yet to make.
abbrev pub IsNotClosed : Hosting → NotClosed → Type 0
IsNotClosed x (Running y) = GoesOn x y × (y.calls ≡ x.calls) × Any IsAwaited y.out
IsNotClosed x (CallsLeft y) = GoesOn x y × HasLooked x.calls y.calls × (SYNCS < length (known_items y.calls.ring) + CLOSE_SYNCS)
IsNotClosed x (InUse y) = GoesOnWithout x y × HasLooked x.calls y.calls
IsNotClosed x (Stopped closed e) = HasLooked x.calls closed.calls × StopsFor x.home x.helper closed.disk e
