-- Why a run of workers is stopped, by the part of it that was refused.
use Rattle.std.specs.Prelude.{ℕ, ◌≡◌, ◌⊎◌}
use Rattle.block_disk.specs.Device.{Device}
use Rattle.guards.specs.Schema.{Declarations}
use Rattle.thread_work.specs.Crashes.{TakesEach}
use Rattle.thread_work.specs.Stops.{IsHomeOf, StopsClosing, StopsRound}
use Rattle.thread_work.specs.declared.error.RunError.{RunError}
use Rattle.thread_work.specs.declared.error.RunError.TheVariants as run
use Rattle.image_parts.specs.Recovered.{Parts}
use Rattle.image_parts.specs.declared.layout.Layout.{Layout}
use Rattle.monitor.specs.Seats.{Home}
use Rattle.thread_drive.specs.Crashes.{CrashesOf}
use Rattle.thread_drive.specs.Working.{StopsWorker}
use Rattle.thread_drive.specs.declared.error.DriveError.{DriveError}
use Rattle.thread_drive.specs.declared.error.DriveError.TheVariants.{NoMemory, Image, Helper, Session, Close, Recover, OtherSchema}

-- what is told of a refusal of the heap's threads. No worker ends with a monitor held.
abbrev pub said_of : RunError → DriveError
said_of run.NoMemory = NoMemory
said_of run.NoThread = NoMemory
said_of (run.Image e) = Image e
said_of (run.Helper e) = Helper e
said_of run.Unfinished = OtherSchema
said_of (run.Close e) = Close e
said_of (run.Recover e) = Recover e
said_of run.OtherSchema = OtherSchema

-- why a run by these words is stopped, that began on the one device and leaves the other
abbrev pub StopsBy : Home → Layout → (old new : Device) → DriveError → Type 0
StopsBy h l old new NoMemory = Unit {0}
StopsBy h l old new (Helper e) = StopsRound old new e
StopsBy h l old new (Session e) = StopsWorker h l.capacity e
StopsBy h l old new (Close e) = StopsClosing old new e
StopsBy h l old new (Recover e) = Unit {0}
StopsBy h l old new _ = ⊥

module _ {D : Type 0} (device : D → Device) where
  -- So many workers ran on a heap of this schema, on an image in this state, and were stopped. A crash may have come
  -- since then, at any moment of the run, of the closing, and of the recovery after it.
  pub record IsStopped (schema : Declarations) (workers : ℕ) (was : Parts D) (new : Device) (e : DriveError) : Type 0 where
    pub shared : Home
    pub plan : IsHomeOf schema was.heap workers shared
    -- No closing is stopped by the workers: each worker's session has come, and none holds a monitor. A worker's session
    -- stops a run only as `Behind` or `Worn`, or because the heap has too few objects or fields for it, or guards one
    -- of its fields otherwise.
    pub stops : StopsBy shared was.layout (device was.disk) new e
    -- Where a run is stopped, whatever the refusal, recovery accepts whatever a crash left since it began. If workers
    -- have ended, and there was memory for what they left, no crash takes back what one had read as stable.
    pub crashes : CrashesOf shared was.layout (device was.disk) new e

  -- Why a run of so many workers on a heap of this schema is stopped, on an image in this state: memory ran out before there was a
  -- heap, so that nothing was done; or there is a cause. Either way recovery accepts whatever a crash left since then.
  abbrev pub StopsRun : (schema : Declarations) (workers : ℕ) → (was : Parts D) → (new : Device) → DriveError → Type 0
  StopsRun schema workers was new NoMemory = ((new ≡ device was.disk) × TakesEach (device was.disk) new) ⊎ IsStopped schema workers was new NoMemory
  StopsRun schema workers was new e = IsStopped schema workers was new e
