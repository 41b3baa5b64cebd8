-- A hosted heap, as contracts see it, and what its calls keep (this project's own).
use Rattle.std.specs.Prelude.{ℕ, ◌≡◌, List, [], ◌∷◌, Result, Ok, All, drop, fold, length}
use Rattle.block_disk.specs.Device.{Device}
use Rattle.disk_deferred.specs.Deferred.{Deferred, deferred_device}
use Rattle.disk_deferred.specs.Host.{Host}
use Rattle.monitor.specs.Seats.{Home}
use Rattle.thread_heap.specs.Closed.{IsClosed, IsClosedFrom}
use Rattle.session.specs.Sessions.{view_of}
use Rattle.thread_steps.specs.Views.{plan}
use Rattle.heap_model.specs.Past.{Past}
use Rattle.trim_helper.specs.Calls.{Closes}
use Rattle.trim_helper.specs.Endings.{HoldNone, IsComplete, IsEnded}
use Rattle.trim_helper.specs.Parts.{IsServing, Parts}
use Rattle.trim_helper.specs.declared.close_error.CloseError.{CloseError}
use Rattle.trim_helper.specs.declared.ended.Ended.{Ended}
use Rattle.host_heap.specs.Sessions.{Seated}
use Rattle.host_heap.specs.Stopping.{Stopping}
use Rattle.host_heap.specs.declared.lane_end.LaneEnd.{LaneEnd}

-- the device that a deferred disk is
abbrev pub hosted_device : Deferred → Device
hosted_device d = deferred_device d

-- A hosted heap has its words, its helper, and the calls that its host has made and is yet to make. `unused` are the lanes whose session wasn't
-- handed out, the next one first. `out` are the ends where the sessions that were come back, the last one first. By the word `stop` they learn
-- that the heap has stopped.
pub record Hosting : Type 0 where
  pub home : Home
  pub helper : Parts Deferred
  pub calls : Host
  pub unused : List ℕ
  pub out : List LaneEnd
  pub stop : Stopping

-- the lanes of these sessions, the last one first
abbrev pub lanes_of : List Seated → List ℕ
lanes_of sessions = fold (λ later s. (view_of s.session).lane.0 ∷ later) [] sessions

-- of the lanes' ends, the last lane's first, those after the lanes whose session wasn't handed out
abbrev pub handed_out : List Seated → List LaneEnd → List LaneEnd
handed_out unused ends = drop (length unused) ends

-- nothing of it has changed but for the calls of its host
pub record SameHeap (x y : Hosting) : Type 0 where
  pub home : y.home ≡ x.home
  pub helper : y.helper ≡ x.helper
  pub unused : y.unused ≡ x.unused
  pub out : y.out ≡ x.out
  pub stop : y.stop ≡ x.stop

-- These sessions that have ended met the helper, with this outcome, whatever it served.
abbrev pub HaveMetHelper : Home → Parts Deferred → List Ended → Result Deferred (Deferred × CloseError) → Type 0
HaveMetHelper h x ended answer = (p : Past) → IsServing hosted_device x (plan h) p → Closes hosted_device h ended p x answer

-- The heap's sessions have ended, one a lane, and none of them held a monitor. One legal history has what each was told as its part,
-- and the device stands for its heap. It is the helper's device, later: whatever a crash left since then shows what store calls made of
-- what the helper served, two of which committed at most.
pub record IsClosedWith (h : Home) (x : Parts Deferred) (disk : Deferred) : Type 0 where
  pub ended : List Ended
  pub are : All (IsEnded h x.store.known.layout.capacity x.rings) ended
  pub none : HoldNone ended
  pub complete : IsComplete x.store.known.threads ended
  pub closed : IsClosed h x.store.known.layout ended (hosted_device disk)
  pub from : (p : Past) → IsServing hosted_device x (plan h) p → IsClosedFrom h x.store.known.layout ended p x.seat (hosted_device x.store.disk) (hosted_device disk)
  -- Whatever a crash leaves of the disk after a closing, good or stopped, recovery accepts. Each image shows what store
  -- calls make of what the helper served.
  pub closes : HaveMetHelper h x ended (Ok disk)
