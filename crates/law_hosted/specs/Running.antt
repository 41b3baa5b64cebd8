-- A crash of the host's device while threads run (this project's own).
use Rattle.std.specs.Prelude.{ℕ, ◌≡◌, false, List, Result}
use Rattle.heap_model.specs.declared.event.Event.{Event}
use Rattle.block_disk.specs.Device.{Device}
use Rattle.disk_deferred.specs.Deferred.{Deferred}
use Rattle.disk_deferred.specs.Host.{Host}
use Rattle.monitor.specs.Seats.{Home}
use Rattle.law_running.specs.Running.{KeepsRunning, RunsOn}
use Rattle.law_running.specs.Runs.{RunsSince}
use Rattle.thread_steps.specs.Views.{plan}
use Rattle.heap_model.specs.Past.{Past}
use Rattle.heap_model.specs.declared.store_error.StoreError.{StoreError}
use Rattle.trim_helper.specs.Parts.{IsServing, Parts}
use Rattle.host_heap.specs.Hosting.{Hosting, IsClosedWith, hosted_device}
use Rattle.host_heap.specs.Rounds.{HearsThreads, MakesRound}
use Rattle.law_hosted.specs.Safe.{LeavesSince}

-- A store of this past had the old device, and has run since. A helper serves it now, and has seen this history of what is applied. What the
-- host's device keeps since are whole sections of each legal history that goes on from that, with all that was acknowledged then.
abbrev pub HostRunLaw : Type 0
HostRunLaw = (h : Home) (p : Past) (old : Device) (y : Parts Deferred) (seen : List (ℕ × Event)) (c : Host) (image : List ℕ)
    → RunsOn hosted_device h p old y seen → LeavesSince old y.store.disk c image → KeepsRunning y.store.known.layout (plan h) p seen image

-- Since the old device, when its store had this past, the store has run to what the helper serves now. It hasn't failed.
pub record HasRunOn (x : Hosting) (p : Past) (old : Device) : Type 0 where
  pub run : RunsSince x.helper.store.known.layout x.helper.store.known.threads (plan x.home) p old (hosted_device x.helper.store.disk)
  pub serves : IsServing hosted_device x.helper (plan x.home) run.now
  pub running : x.helper.store.known.has_failed ≡ false

-- So it is over a round of the heap, by the history that its helper has seen at the end, whatever the round answers.
abbrev pub HostRoundLaw : Type 0
HostRoundLaw = (x y : Hosting) (answer : Result ℕ StoreError) (p : Past) (old : Device) (c : Host) (image : List ℕ)
    → HasRunOn x p old → MakesRound x y answer → HearsThreads x y → LeavesSince old y.helper.store.disk c image
    → KeepsRunning y.helper.store.known.layout (plan x.home) p y.helper.seat.view.history image

-- So it is of a run that ends with a closing, at whatever moment the host comes on with the calls that are left: of the closing's history.
abbrev pub HostClosingLaw : Type 0
HostClosingLaw = (h : Home) (x : Parts Deferred) (p : Past) (old : Device) (d : Deferred) (c : Host) (image : List ℕ)
    → h.plan.lanes ≡ x.store.known.threads
    → (run : RunsSince x.store.known.layout x.store.known.threads (plan h) p old (hosted_device x.store.disk))
    → (serves : IsServing hosted_device x (plan h) run.now) → (closing : IsClosedWith h x d) → LeavesSince old d c image
    → KeepsRunning x.store.known.layout (plan h) p (closing.from run.now serves).closed.history image
