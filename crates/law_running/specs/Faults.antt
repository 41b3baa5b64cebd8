-- What a crash keeps after a fault (this project's own).
use Rattle.std.specs.Prelude.{ℕ, ◌≡◌, true, List, Result}
use Rattle.heap_model.specs.declared.event.Event.{Event}
use Rattle.block_disk.specs.Device.{Device}
use Rattle.monitor.specs.Seats.{Home}
use Rattle.thread_steps.specs.Views.{plan}
use Rattle.heap_model.specs.Past.{Past}
use Rattle.heap_model.specs.declared.store_error.StoreError.{StoreError}
use Rattle.law_survival.specs.WholeRun.{MayBeLeft}
use Rattle.trim_helper.specs.Calls.{Closes, HasGoneOn, Rounds}
use Rattle.trim_helper.specs.Closed.{disk_of}
use Rattle.trim_helper.specs.Parts.{Parts}
use Rattle.trim_helper.specs.declared.close_error.CloseError.{CloseError}
use Rattle.trim_helper.specs.declared.ended.Ended.{Ended}
use Rattle.law_running.specs.Running.{KeepsRunning, RunsOn}

module _ {D : Type 0} (device : D → Device) where
  -- The run of a store that has failed goes on over each further round as it is: the round makes no call, and the helper has still seen all that is
  -- applied.
  abbrev pub RunsOnFailedLaw : Type 0
  RunsOnFailedLaw = (h : Home) (p : Past) (old : Device) (y z : Parts D) (answer : Result ℕ StoreError) (seen : List (ℕ × Event))
      → (on : RunsOn device h p old y seen) → y.store.known.has_failed ≡ true → HasGoneOn h y z → Rounds device (plan h) on.run.now y z answer
      → RunsOn device h p old z seen

  -- After a fault, a closing leaves the device as it is. Whatever a crash left at any moment up to the closing's end, recovery keeps as it keeps what a
  -- crash left before the closing.
  abbrev pub CrashInFailedCloseLaw : Type 0
  CrashInFailedCloseLaw = (h : Home) (p : Past) (old : Device) (y : Parts D) (ended : List Ended) (answer : Result D (D × CloseError))
      (seen : List (ℕ × Event)) (image : List ℕ) → (on : RunsOn device h p old y seen) → y.store.known.has_failed ≡ true
      → Closes device h ended on.run.now y answer → MayBeLeft old (device (disk_of answer)) image
      → KeepsRunning y.store.known.layout (plan h) p seen image
