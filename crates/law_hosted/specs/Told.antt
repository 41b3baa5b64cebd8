-- What was told of a hosted heap that runs, and what a crash of the host's device then keeps (this project's own).
use Rattle.std.specs.Prelude.{ℕ, ◌≡◌, List}
use Rattle.disk_deferred.specs.Deferred.{Deferred}
use Rattle.disk_deferred.specs.Host.{HaveMet, Host}
use Rattle.monitor.specs.Seats.{Helping, Home}
use Rattle.law_running.specs.Running.{RunsOn}
use Rattle.law_running.specs.Told.{HasReadOf, IsMoment, KeepsRead, KeepsTold, Moment}
use Rattle.session.specs.Sessions.{view_of}
use Rattle.session.specs.declared.session.Session.{Session}
use Rattle.thread_steps.specs.Views.{plan}
use Rattle.heap_model.specs.Past.{Past}
use Rattle.trim_helper.specs.Parts.{IsServing, Parts}
use Rattle.host_heap.specs.Hosting.{Hosting, hosted_device}
use Rattle.host_heap.specs.Meeting.{AreAllMade, SameButMet}
use Rattle.law_hosted.specs.Safe.{LeavesLater, LeavesSince}

-- The heap told a count of sections as acknowledged: the host had made all calls that were handed over by then. Store calls have gone on from the
-- past that its helper served, and the helper had seen all that they applied when a crash came. Whatever that left of the host's device keeps all
-- that was acknowledged then, as whole sections of the one history of the crash, in which each lane's part is what its session was told.
abbrev pub AcknowledgedToldLaw : Type 0
AcknowledgedToldLaw = (p : Past) (x z : Hosting) (y : Parts Deferred) (now : Moment) (helper : Helping) (c : Host) (image : List ℕ)
    → IsServing hosted_device x.helper (plan x.home) p → SameButMet x z → HaveMet z.helper.store.disk z.calls → AreAllMade z.calls
    → RunsOn hosted_device x.home p (hosted_device z.helper.store.disk) y helper.view.history → IsMoment x.home now helper
    → LeavesLater z.calls y.store.disk c image → KeepsTold x.home y.store.known.layout p now image

-- A session had read a count by a moment by which the helper had published no more than when it served this past. Once the host has made the
-- calls that had been handed over when it did, whatever a crash of its device leaves keeps so many sections of the lane at least.
abbrev pub HostReadLaw : Type 0
HostReadLaw = (h : Home) (p : Past) (x y : Parts Deferred) (t : Session) (sections : ℕ) (now : Moment) (helper : Helping) (c : Host) (image : List ℕ)
    → HasReadOf hosted_device h p x t sections → y.store.known.layout ≡ x.store.known.layout
    → RunsOn hosted_device h p (hosted_device x.store.disk) y helper.view.history → IsMoment h now helper
    → LeavesSince (hosted_device x.store.disk) y.store.disk c image → KeepsRead h y.store.known.layout p now image (view_of t).lane.0 sections
