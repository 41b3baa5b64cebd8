-- A crash of the device on which a host makes its heap's calls (this project's own).
use Rattle.std.specs.Prelude.{ℕ, suc, ◌≡◌, ◌<◌, ◌≤◌, ◌⊎◌, ◌++◌, List, [], Result}
use Rattle.heap_model.specs.Cuts.{all_ended, counts_of}
use Rattle.heap_model.specs.History.{log_of, state_after}
use Rattle.heap_model.specs.Sections.{actions}
use Rattle.heap_model.specs.declared.event.Event.{Event}
use Rattle.heap_model.specs.Setting.{Setting}
use Rattle.block_disk.specs.Device.{Device, Image}
use Rattle.block_disk.specs.Memory.{moment_after}
use Rattle.disk_deferred.specs.Deferred.{Deferred, deferred_device, onto}
use Rattle.disk_deferred.specs.Host.{HaveMet, Host}
use Rattle.disk_deferred.specs.Syncs.{durable_moments, moments_of, syncs_in}
use Rattle.disk_deferred.specs.declared.call.DeviceCall.{DeviceCall}
use Rattle.guards.specs.Schema.{Declarations}
use Rattle.image_parts.specs.Recovered.{Parts as Recovered}
use Rattle.image_parts.specs.declared.layout.Layout.{Layout}
use Rattle.monitor.specs.Seats.{Home}
use Rattle.recover.specs.Recovery.{IsOnTheWay}
use Rattle.recover.specs.Study.{IsStudyOf}
use Rattle.recover.specs.declared.report.Report.{Report}
use Rattle.recover.specs.declared.studied.Study.{Study}
use Rattle.recover.specs.declared.versions.Versions.{Versions}
use Rattle.store_rounds.specs.Runs.{HasRun}
use Rattle.store_rounds.specs.Stops.{ShowsCut}
use Rattle.law_running.specs.Runs.{RunsSince}
use Rattle.thread_steps.specs.Views.{plan}
use Rattle.store_image.specs.KeptHeap.{StandsForCut, values_below}
use Rattle.heap_model.specs.Past.{Past, no_past}
use Rattle.heap_model.specs.declared.store_error.StoreError.{StoreError}
use Rattle.law_survival.specs.Taken.{IsTaken}
use Rattle.law_survival.specs.WholeRun.{MayBeLeft}
use Rattle.trim_helper.specs.Closed.{disk_of}
use Rattle.trim_helper.specs.Parts.{IsServing, Parts}
use Rattle.trim_helper.specs.Settled.{closed_value}
use Rattle.trim_helper.specs.declared.close_error.CloseError.{CloseError}
use Rattle.trim_helper.specs.declared.ended.Ended.{Ended}
use Rattle.undo_log.specs.StandsFor.{StandsFor}
use Rattle.host_heap.specs.Hosting.{HaveMetHelper, Hosting, IsClosedWith, hosted_device}
use Rattle.host_heap.specs.Meeting.{AreAllMade, SameButMet, host_moment}
use Rattle.host_heap.specs.Opening.{HasBegun, IsFound}
use Rattle.host_heap.specs.Rounds.{KeepsSessions, MakesRound}

-- Recovery accepts the image, and keeps of each lane at least so many sections.
pub record IsSafe (l : Layout) (least : ℕ → ℕ) (image : List ℕ) : Type 0 where
  pub accepted : IsTaken image
  pub keeps : (lane : ℕ) → lane < l.lanes → least lane ≤ counts_of accepted.study.report.kept lane

-- Whatever a crash left at any moment of a store's run is safe: all is kept that was acknowledged when the run began. So many of the image's
-- lanes are the threads'.
abbrev pub KeptRunLaw : Type 0
KeptRunLaw = (l : Layout) (t : ℕ) (s : Setting) (p : Past) (old new : Device) (image : List ℕ)
    → RunsSince l t s p old new → MayBeLeft old new image → IsSafe l p.cut image

-- what a crash of the host's device may leave of a heap, where the host has made of the calls that are left these too
abbrev pub HostLeaves : (d : Deferred) (c : Host) (next : List DeviceCall) → List ℕ → Type 0
HostLeaves d c next image = Image (moment_after d.memory.first (onto c.made next)) image

-- The disk has met its host. Now, or when the host has made some more of the calls that are left, a crash of the host's device leaves this.
pub record LeavesBy (d : Deferred) (c : Host) (image : List ℕ) : Type 0 where
  pub met : HaveMet d c
  pub next : List DeviceCall
  pub more : List DeviceCall
  pub left : c.left ≡ next ++ more
  pub leaves : HostLeaves d c next image

-- So it does, and the host has made all calls that had been handed over when its disk was the old one, and maybe more.
pub record LeavesSince (old : Device) (d : Deferred) (c : Host) (image : List ℕ) : Type 0 where
  pub by : LeavesBy d c image
  pub made : durable_moments (moments_of old) ≤ suc (syncs_in c.made)

-- So it does, and the host's device was synced as often as when these calls were made, or more often.
pub record LeavesLater (before : Host) (d : Deferred) (c : Host) (image : List ℕ) : Type 0 where
  pub by : LeavesBy d c image
  pub made : syncs_in before.made ≤ syncs_in c.made

-- A store of this past had the old device, and has run since. The host has made the calls that had been handed over by then. Then whatever a
-- crash of its device leaves is safe: all is kept that was acknowledged in that past.
abbrev pub HostLaw : Type 0
HostLaw = (l : Layout) (t : ℕ) (s : Setting) (p : Past) (old : Device) (d : Deferred) (c : Host) (image : List ℕ)
    → RunsSince l t s p old (deferred_device d) → LeavesSince old d c image → IsSafe l p.cut image

-- So it is since the heap was opened, once the host has made the calls of that.
abbrev pub BegunLaw : Type 0
BegunLaw = (schema : Declarations) (threads : ℕ) (r : Recovered Deferred) (x : Hosting) (q : Past) (d : Deferred) (c : Host) (image : List ℕ)
    → HasBegun schema threads r x → HasRun r.layout threads (plan x.home) no_past (hosted_device r.disk) q (hosted_device d)
    → LeavesSince (hosted_device r.disk) d c image → IsSafe r.layout no_past.cut image

-- Whatever store calls are made since, and whichever of theirs the host makes: whatever a crash of its device leaves is safe, and keeps what
-- was acknowledged then.
abbrev pub KeepsFrom : (x y : Hosting) → Type 0
KeepsFrom x y = (p : Past) (d : Deferred) (c : Host) (image : List ℕ) → IsServing hosted_device x.helper (plan x.home) p
    → RunsSince x.helper.store.known.layout x.helper.store.known.threads (plan x.home) p (hosted_device y.helper.store.disk) (hosted_device d)
    → LeavesLater y.calls d c image → IsSafe x.helper.store.known.layout p.cut image

-- And so it is right then.
abbrev pub KeepsNow : (x y : Hosting) → Type 0
KeepsNow x y = (p : Past) (image : List ℕ) → IsServing hosted_device x.helper (plan x.home) p
    → Image (host_moment y) image → IsSafe x.helper.store.known.layout p.cut image

-- So it is once the host has made all calls that were handed over.
abbrev pub AcknowledgedLaw : Type 0
AcknowledgedLaw = (x y : Hosting) → SameButMet x y → HaveMet y.helper.store.disk y.calls → AreAllMade y.calls → KeepsFrom x y

abbrev pub NowLaw : Type 0
NowLaw = (x y : Hosting) → SameButMet x y → HaveMet y.helper.store.disk y.calls → AreAllMade y.calls → KeepsNow x y

-- A round of the heap goes on with the run, whatever it answers.
abbrev pub LivesLaw : Type 0
LivesLaw = (x y : Hosting) (answer : Result ℕ StoreError) (old : Device) (first p : Past) → IsServing hosted_device x.helper (plan x.home) p
    → HasRun x.helper.store.known.layout x.helper.store.known.threads (plan x.home) first old p (hosted_device x.helper.store.disk)
    → MakesRound x y answer → KeepsSessions x y → (q : Past) × IsServing hosted_device y.helper (plan y.home) q
    × HasRun y.helper.store.known.layout y.helper.store.known.threads (plan y.home) first old q (hosted_device y.helper.store.disk)

-- So does a closing, whatever it answers, up to the disk that it leaves.
abbrev pub EndsLaw : Type 0
EndsLaw = (h : Home) (x : Parts Deferred) (ended : List Ended) (answer : Result Deferred (Deferred × CloseError)) (old : Device) (first p : Past)
    → IsServing hosted_device x (plan h) p → HasRun x.store.known.layout x.store.known.threads (plan h) first old p (hosted_device x.store.disk)
    → HaveMetHelper h x ended answer → (q : Past) × HasRun x.store.known.layout x.store.known.threads (plan h) first old q (hosted_device (disk_of answer))

-- The image is the heap of this history with all its sections. It shows the acknowledged cut of this past, so that recovery accepts it. The
-- persistent fields have the history's values after that, and the transient ones begin anew.
pub record IsHeapOf (s : Setting) (l : Layout) (t : ℕ) (history : List (ℕ × Event)) (now : Past) (image : List ℕ) : Type 0 where
  pub left : ShowsCut l t s now.logged now.cut image
  pub stands : StandsForCut l s (log_of s history) (all_ended (actions (log_of s history))) image
  pub values : StandsFor l image (values_below (closed_value s (state_after s history).value) l.fields)

-- So is whatever a crash of the host's device leaves after a closing, once the host has made all calls that were handed over.
abbrev pub ClosedLaw : Type 0
ClosedLaw = (h : Home) (x : Parts Deferred) (d : Deferred) (c : Host) (image : List ℕ) → (closing : IsClosedWith h x d)
    → HaveMet d c → AreAllMade c → HostLeaves d c [] image → IsHeapOf (plan h) x.store.known.layout h.plan.lanes closing.closed.history closing.closed.now image

-- While the host makes the calls by which a heap was opened, or upgraded, a crash of its device leaves the bytes that it had, or an image on
-- recovery's way, which has the same heap. So the heap may be opened again.
abbrev pub OpeningLaw : Type 0
OpeningLaw = (versions : Versions) (threads ring : ℕ) (bytes : List ℕ) (x : Hosting) (report : Report) (s : Study) (c : Host) (image : List ℕ)
    → IsFound versions threads ring bytes x report → IsStudyOf bytes s → LeavesBy x.helper.store.disk c image
    → Image (record { bytes = bytes; pending = [] }) image ⊎ IsOnTheWay s image
