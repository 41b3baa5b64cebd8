-- What a crash of the host's device keeps of a heap whose store has failed (this project's own).
use Rattle.std.specs.Prelude.{ℕ, ◌≡◌, true, List, Result}
use Rattle.heap_model.specs.declared.event.Event.{Event}
use Rattle.block_disk.specs.Device.{Device}
use Rattle.disk_deferred.specs.Deferred.{Deferred}
use Rattle.disk_deferred.specs.Host.{Host}
use Rattle.monitor.specs.Seats.{Home}
use Rattle.law_running.specs.Running.{KeepsRunning, RunsOn}
use Rattle.thread_steps.specs.Views.{plan}
use Rattle.heap_model.specs.Past.{Past}
use Rattle.heap_model.specs.declared.store_error.StoreError.{StoreError}
use Rattle.trim_helper.specs.Closed.{disk_of}
use Rattle.trim_helper.specs.Parts.{Parts}
use Rattle.trim_helper.specs.declared.close_error.CloseError.{CloseError}
use Rattle.trim_helper.specs.declared.ended.Ended.{Ended}
use Rattle.host_heap.specs.Hosting.{HaveMetHelper, Hosting, hosted_device}
use Rattle.host_heap.specs.Rounds.{MakesRound}
use Rattle.law_hosted.specs.Safe.{LeavesSince}

-- A round after a fault leaves the disk as it was. So what a crash of the host's device keeps after it are whole sections of the history
-- that the helper had seen before, with all that was acknowledged.
abbrev pub StillRoundLaw : Type 0
StillRoundLaw = (x y : Hosting) (answer : Result ℕ StoreError) (p : Past) (old : Device) (seen : List (ℕ × Event)) (c : Host) (image : List ℕ)
    → RunsOn hosted_device x.home p old x.helper seen → x.helper.store.known.has_failed ≡ true → MakesRound x y answer
    → LeavesSince old y.helper.store.disk c image → KeepsRunning x.helper.store.known.layout (plan x.home) p seen image

-- A closing after a fault leaves the disk as it was, and a crash of the host's device keeps the same after it.
abbrev pub StillClosingLaw : Type 0
StillClosingLaw = (h : Home) (x : Parts Deferred) (ended : List Ended) (answer : Result Deferred (Deferred × CloseError)) (p : Past) (old : Device)
    (seen : List (ℕ × Event)) (c : Host) (image : List ℕ) → RunsOn hosted_device h p old x seen → x.store.known.has_failed ≡ true
    → HaveMetHelper h x ended answer → LeavesSince old (disk_of answer) c image → KeepsRunning x.store.known.layout (plan h) p seen image
