-- The headline for a heap whose calls a host makes on a device of its own (this project's own).
use Rattle.std.specs.Prelude.{ℕ, ◌≡◌, List, Result}
use Rattle.heap_model.specs.declared.event.Event.{Event}
use Rattle.block_disk.specs.Device.{Device}
use Rattle.disk_deferred.specs.Deferred.{Deferred}
use Rattle.disk_deferred.specs.Host.{Host}
use Rattle.monitor.specs.Seats.{Home}
use Rattle.thread_steps.specs.Views.{plan}
use Rattle.heap_model.specs.Past.{Past}
use Rattle.heap_model.specs.declared.store_error.StoreError.{StoreError}
use Rattle.law_survival.specs.Promise.{Answer}
use Rattle.trim_helper.specs.Parts.{IsServing, Parts}
use Rattle.law_running.specs.Running.{RunsOn}
use Rattle.law_running.specs.Runs.{RunsSince}
use Rattle.host_heap.specs.Hosting.{Hosting, IsClosedWith, hosted_device}
use Rattle.host_heap.specs.Rounds.{HearsThreads, MakesRound}
use Rattle.law_hosted.specs.Running.{HasRunOn}
use Rattle.law_hosted.specs.Safe.{LeavesSince}
use Rattle.headline.specs.Headline.{Gives}

-- A store of this past had the old device, and has run since; a helper serves it now, and has seen this history. The host has made the calls that
-- were handed over by then. A crash of its device came at whatever moment of those that are left: so recovery gives, with all that was acknowledged
-- in that past.
abbrev pub GivesHostRun : {E : Type 0} → (image : List ℕ) → Answer E → Type 0
GivesHostRun image told = (h : Home) (p : Past) (old : Device) (y : Parts Deferred) (seen : List (ℕ × Event)) (c : Host)
    → RunsOn hosted_device h p old y seen → LeavesSince old y.store.disk c image → Gives y.store.known.layout (plan h) p seen told

-- So it is over a round of the heap, whatever the round answers.
abbrev pub GivesHostRound : {E : Type 0} → (image : List ℕ) → Answer E → Type 0
GivesHostRound image told = (x y : Hosting) (answer : Result ℕ StoreError) (p : Past) (old : Device) (c : Host)
    → HasRunOn x p old → MakesRound x y answer → HearsThreads x y → LeavesSince old y.helper.store.disk c image
    → Gives y.helper.store.known.layout (plan x.home) p y.helper.seat.view.history told

-- So it is over a closing, at whatever moment the host comes on with the calls that are left: by the closing's history.
abbrev pub GivesHostClosing : {E : Type 0} → (image : List ℕ) → Answer E → Type 0
GivesHostClosing image told = (h : Home) (x : Parts Deferred) (p : Past) (old : Device) (d : Deferred) (c : Host) → h.plan.lanes ≡ x.store.known.threads
    → (run : RunsSince x.store.known.layout x.store.known.threads (plan h) p old (hosted_device x.store.disk))
    → (serves : IsServing hosted_device x (plan h) run.now) → (closing : IsClosedWith h x d) → LeavesSince old d c image
    → Gives x.store.known.layout (plan h) p (closing.from run.now serves).closed.history told
