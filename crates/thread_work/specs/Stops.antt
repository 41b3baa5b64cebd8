-- Why a run of threads is stopped, by the part of it that was refused.
use Rattle.std.specs.Prelude.{ℕ, ◌≡◌, ◌⊎◌, List}
use Rattle.block_disk.specs.Device.{Device, HasFailed}
use Rattle.guards.specs.Schema.{Declarations}
use Rattle.heap_model.specs.declared.limits.TheConstants.{LAST_NUMBER}
use Rattle.image_parts.specs.Recovered.{Parts}
use Rattle.monitor.specs.Seats.{Home}
use Rattle.recover.specs.Recovery.{RefusesRecovery}
use Rattle.recover_heap.specs.declared.error.RecoverError.{RecoverError}
use Rattle.recover_heap.specs.declared.error.RecoverError.TheVariants as recover
use Rattle.session.specs.declared.session.Session.{Session}
use Rattle.heap_model.specs.declared.store_error.StoreError.{StoreError}
use Rattle.heap_model.specs.declared.store_error.StoreError.TheVariants as store
use Rattle.trim_helper.specs.Endings.{IsWornOut}
use Rattle.trim_helper.specs.declared.close_error.CloseError.{CloseError}
use Rattle.trim_helper.specs.declared.close_error.CloseError.TheVariants as close
use Rattle.thread_work.specs.Bodies.{Answer}
use Rattle.thread_work.specs.Crashes.{CrashesOf, TakesEach}
use Rattle.thread_work.specs.declared.error.RunError.{RunError}
use Rattle.thread_work.specs.declared.error.RunError.TheVariants.{NoMemory, NoThread, Helper, Unfinished, Close, Recover}

-- A round of the helper is refused: the device's control is at its last sequence, or the device has failed since the run began. It isn't by `Failed`,
-- since the first fault ends the rounds.
abbrev pub StopsRound : (old new : Device) → StoreError → Type 0
StopsRound old new store.Worn = IsWornOut new
StopsRound old new store.Fault = HasFailed old.failures new.failures
StopsRound old new _ = ⊥

-- The closing is refused, for the same causes. No lane's session is missing, none holds a monitor, and the device hadn't failed before.
abbrev pub StopsClosing : (old new : Device) → CloseError → Type 0
StopsClosing old new close.Worn = IsWornOut new
StopsClosing old new close.Fault = HasFailed old.failures new.failures
StopsClosing old new _ = ⊥

-- the device that closing gave back isn't recovered
abbrev pub RefusesTelling : (closed new : Device) → RecoverError → Type 0
RefusesTelling closed new recover.Fault = HasFailed closed.failures new.failures
RefusesTelling closed new e = RefusesRecovery closed.now.bytes e

-- nor is it told what is there
abbrev pub StopsTelling : (closed new : Device) → RunError → Type 0
StopsTelling closed new NoMemory = Unit {0}
StopsTelling closed new (Recover e) = RefusesTelling closed new e
StopsTelling closed new _ = ⊥

-- the words of a heap of this schema that begins with these values, with so many lanes for threads
abbrev pub IsHomeOf : Declarations → (values : List ℕ) → (lanes : ℕ) → Home → Type 0
IsHomeOf schema values lanes h = h.plan ≡ record { schema = schema; first = values; last = LAST_NUMBER; lanes = lanes }

-- Why a run is stopped after its bodies have returned, that began on the one device and leaves the other. What `Unfinished` and `Recover` mean
-- is a part of `CrashesOf`.
abbrev pub StopsEnd : (old new : Device) → RunError → Type 0
StopsEnd old new NoMemory = Unit {0}
StopsEnd old new (Helper e) = StopsRound old new e
StopsEnd old new Unfinished = Unit {0}
StopsEnd old new (Close e) = StopsClosing old new e
StopsEnd old new (Recover e) = Unit {0}
StopsEnd old new _ = ⊥

-- Or before: where some lane got no thread the device is as it was.
abbrev pub StopsBy : (old new : Device) → RunError → Type 0
StopsBy old new NoThread = new ≡ old
StopsBy old new e = StopsEnd old new e

-- what a body does, and the device of a disk
module _ (does : Home → Session → Session → Answer → Type 0) {D : Type 0} (device : D → Device) where
  -- A heap of this schema ran with so many threads on an image in this state, and was stopped. A crash may have come since
  -- then, at any moment of the run, of the closing, and of the recovery after it.
  pub record IsStopped (schema : Declarations) (threads : ℕ) (was : Parts D) (new : Device) (e : RunError) : Type 0 where
    pub shared : Home
    pub plan : IsHomeOf schema was.heap threads shared
    -- A run of threads is refused with its cause. A lane that got no thread leaves the device as it was. A round or a
    -- closing is refused by a fault of the device since the run began, or because its control is at its last sequence.
    pub stops : StopsBy (device was.disk) new e
    -- Where a run of threads is stopped, whatever the refusal, recovery accepts whatever a crash left since it began. If
    -- bodies have returned, and there was memory for what they left, no crash takes back what a thread had read as stable.
    pub crashes : CrashesOf does shared was.layout (device was.disk) new e

  -- Why a run of so many threads on a heap of this schema is stopped, on an image in this state: memory ran out before there was a heap, so
  -- that nothing was done; or there is a cause. Either way recovery accepts whatever a crash left since then.
  abbrev pub StopsRun : (schema : Declarations) (threads : ℕ) → (was : Parts D) → (new : Device) → RunError → Type 0
  StopsRun schema threads was new NoMemory = ((new ≡ device was.disk) × TakesEach (device was.disk) new) ⊎ IsStopped schema threads was new NoMemory
  StopsRun schema threads was new e = IsStopped schema threads was new e

  -- So it is of what a run that is stopped gives back.
  abbrev pub StopsBack : (schema : Declarations) (threads : ℕ) → (was : Parts D) → D × RunError → Type 0
  StopsBack schema threads was back = StopsRun schema threads was (device back.0) back.1
