-- A crash at some moment of a heap's life (this project's own).
use Rattle.std.specs.Prelude.{ℕ, ◌≡◌, List}
use Rattle.block_disk.specs.Device.{Device}
use Rattle.monitor.specs.Seats.{Home}
use Rattle.thread_heap.specs.Closed.{IsClosedFrom}
use Rattle.thread_heap.specs.Life.{HasLived}
use Rattle.thread_steps.specs.Views.{plan}
use Rattle.heap_model.specs.Past.{Past, no_past}
use Rattle.law_survival.specs.Running.{KeepsOfHistory}
use Rattle.law_survival.specs.WholeRun.{MayBeLeft}
use Rattle.trim_helper.specs.declared.ended.Ended.{Ended}
use Rattle.trim_helper.specs.Parts.{Parts}
use Rattle.law_running.specs.Running.{KeepsRunning}
use Rattle.law_running.specs.Runs.{RunsSince}

module _ {D : Type 0} (device : D → Device) where
  -- A heap that had been opened on the one device was closed on the other. Whatever a crash left at any moment between, recovery takes,
  -- and keeps whole sections of the history in which each session's part is what it was told.
  abbrev pub CrashLaw : Type 0
  CrashLaw = (h : Home) (opened d : Device) (x : Parts D) (p : Past) (ended : List Ended) → HasLived device h opened x p → (from : IsClosedFrom h x.store.known.layout ended p x.seat (device x.store.disk) d) →
      (image : List ℕ) → MayBeLeft opened d image → KeepsOfHistory x.store.known.layout (plan h) no_past from.closed.history image

  -- A store of this past had the old device, and has run since. Then the heap was closed on the last device. Whatever a crash left at any moment
  -- since the old device, recovery accepts. It keeps whole sections of the closing's history, each with all that it depends on, and with every
  -- section that was acknowledged in that past.
  abbrev pub CrashInClosingLaw : Type 0
  CrashInClosingLaw = (h : Home) (p : Past) (old : Device) (x : Parts D) (d : Device) (ended : List Ended) (image : List ℕ)
      → h.plan.lanes ≡ x.store.known.threads
      → (run : RunsSince x.store.known.layout x.store.known.threads (plan h) p old (device x.store.disk))
      → (from : IsClosedFrom h x.store.known.layout ended run.now x.seat (device x.store.disk) d) → MayBeLeft old d image
      → KeepsRunning x.store.known.layout (plan h) p from.closed.history image
