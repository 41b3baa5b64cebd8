-- What a crash left of a run of threads, at whatever moment it came (this project's own).
use Rattle.std.specs.Prelude.{ℕ, ◌≡◌, ◌⊎◌, ◌≤◌, All, List, [], length, map}
use Rattle.std.specs.List.{range_with_len}
use Rattle.heap_model.specs.declared.event.Event.{Event}
use Rattle.heap_model.specs.Cuts.{counts_of}
use Rattle.heap_model.specs.History.{IsLegalHistory}
use Rattle.heap_model.specs.Log.{IsLegal, lane}
use Rattle.heap_model.specs.Own.{own_log}
use Rattle.heap_model.specs.Sections.{action, holding}
use Rattle.heap_model.specs.Setting.{Setting}
use Rattle.block_disk.specs.Device.{Device, HasFailed}
use Rattle.store_rounds.specs.Runs.{HasRun}
use Rattle.store_rounds.specs.Store.{Known, HasPast}
use Rattle.image_parts.specs.Recovered.{IsRecovered}
use Rattle.image_parts.specs.declared.guard_row.GuardRow.{GuardRow}
use Rattle.image_parts.specs.declared.layout.Layout.{Layout}
use Rattle.image_parts.specs.declared.slot.Slot.{Slot}
use Rattle.monitor.specs.Seats.{Home}
use Rattle.recover.specs.Recovery.{IsCutOff, IsWorn}
use Rattle.recover_heap.specs.declared.error.RecoverError.{RecoverError}
use Rattle.recover_heap.specs.declared.error.RecoverError.TheVariants as recover
use Rattle.session.specs.declared.session.Session.{Session}
use Rattle.thread_heap.specs.Closed.{IsClosed}
use Rattle.law_running.specs.Running.{GoesOnLegally, KeepsRunning}
use Rattle.thread_steps.specs.Views.{plan, view}
use Rattle.heap_model.specs.Past.{Past, applied, no_past}
use Rattle.law_survival.specs.Running.{KeepsIn, KeepsOfHistory}
use Rattle.law_survival.specs.Taken.{IsTaken}
use Rattle.law_survival.specs.WholeRun.{MayBeLeft}
use Rattle.trim_helper.specs.Endings.{HoldNone, IsComplete, lanes_ended}
use Rattle.trim_helper.specs.declared.ended.Ended.{Ended}
use Rattle.thread_work.specs.Bodies.{Answer, WereCalled}
use Rattle.thread_work.specs.declared.error.RunError.{RunError}
use Rattle.thread_work.specs.declared.error.RunError.TheVariants.{NoMemory, NoThread, Helper, Unfinished, Close, Recover}

-- it takes whatever a crash left of the other device, at any moment since this one
abbrev pub TakesEach : (old new : Device) → Type 0
TakesEach old new = (image : List ℕ) → MayBeLeft old new image → IsTaken image

-- it does, and keeps of each whole sections of this history, each with all that it depends on
abbrev pub KeepsEach : Home → Layout → (history : List (ℕ × Event)) → (old new : Device) → Type 0
KeepsEach h l history old new = (image : List ℕ) → MayBeLeft old new image → KeepsOfHistory l (plan h) no_past history image

-- it does, and keeps of each one set of sections: whole ones of each legal history that goes on from this one, each with all that it depends on
abbrev pub KeepsSeen : Home → Layout → (seen : List (ℕ × Event)) → (old new : Device) → Type 0
KeepsSeen h l seen old new = (image : List ℕ) → MayBeLeft old new image → KeepsRunning l (plan h) no_past seen image

-- So it does of each legal history that goes on from the list of events `seen`.
abbrev pub KeepsLater : Home → Layout → (seen : List (ℕ × Event)) → (old new : Device) → Type 0
KeepsLater h l seen old new = (image : List ℕ) → MayBeLeft old new image → KeepsIn (GoesOnLegally (plan h) seen) l (plan h) no_past image

-- so it does, by some list of events
pub record KeepsSome (h : Home) (l : Layout) (old new : Device) : Type 0 where
  pub seen : List (ℕ × Event)
  -- Where a round, a body or want of memory stopped a run of threads, there is a list of events, and recovery keeps one set of sections: whole
  -- ones of each legal history that goes on from it.
  pub each : KeepsSeen h l seen old new

-- Recovery accepts what a good closing gave back, so that only a call may fail, memory may run out, or the control be at its last sequence.
abbrev pub LosesClosed : (closed new : Device) → RecoverError → Type 0
LosesClosed closed new recover.Fault = HasFailed closed.failures new.failures
LosesClosed closed new recover.Worn = IsWorn closed.now.bytes
LosesClosed closed new recover.NoMemory = Unit {0}
LosesClosed closed new _ = ⊥

-- Recovery accepts the image. It keeps at least as many sections of each of these sessions' lanes as the session last read as stable.
pub record KeepsReads (ended : List Ended) (image : List ℕ) : Type 0 where
  pub accepted : IsTaken image
  -- After a refused run of threads, recovery keeps at least as many sections of each thread as the thread last read as
  -- stable.
  pub least : All (λ e. (view e.seat).stable ≤ counts_of accepted.study.report.kept (view e.seat).lane.0) ended

-- So it does of whatever a crash leaves of this device now.
abbrev pub KeepsReadsNow : (ended : List Ended) (d : Device) → Type 0
KeepsReadsNow ended d = (image : List ℕ) → MayBeLeft d d image → KeepsReads ended image

-- What a body does, in a heap of these words, with the session that it is given.
module _ (does : Home → Session → Session → Answer → Type 0) (h : Home) (l : Layout) where
  -- These sessions have ended: there is one a thread, a body was called with each, and each counts the monitors that it holds.
  pub record HaveEnded (ended : List Ended) : Type 0 where
    pub lanes : lanes_ended ended ≡ range_with_len 0 h.plan.lanes
    pub answer : Answer
    -- A body was called for each thread of a run that is refused after its bodies have returned.
    pub called : WereCalled does h l.capacity answer ended
    pub held : All (λ e. e.held ≡ length (holding (map action (own_log (plan h) e.seat.view.events)))) ended

  -- All threads, with these sessions, have left a heap that was opened on the one device and isn't closed, and the other device was given
  -- back.
  pub record HaveLeft (ended : List Ended) (opened new : Device) : Type 0 where
    pub are : HaveEnded ended
    pub history : List (ℕ × Event)
    pub legal : IsLegalHistory (plan h) history
    -- After a refused run of threads, one legal history has what each session was told as its lane's part.
    pub told : All (λ e. lane (view e.seat).lane.0 history ≡ (view e.seat).events) ended
    pub no_other : (k : ℕ) → h.plan.lanes ≤ k → lane k history ≡ []
    -- After a refused run of threads, whatever a crash left since the heap was opened keeps whole sections of that history, each with all
    -- that it depends on.
    pub crashes : KeepsEach h l history opened new
    -- After a refused run of threads, no crash takes back what a thread had read as stable: `durable` answers Ok only then.
    pub durable : KeepsReadsNow ended new

  -- So it is, and a body has ended while its thread held a monitor.
  pub record HaveLeftOpen (opened new : Device) : Type 0 where
    pub ended : List Ended
    pub left : HaveLeft ended opened new
    -- `Unfinished` means that a body has ended while its thread held a monitor.
    pub holds : HoldNone ended → ⊥

  -- A store that had been told nothing has run from the one device to the other; a fault may have cut its last call off. What it has
  -- applied is a legal log. Recovery accepts whatever a crash left meanwhile.
  pub record IsLeftByCalls (opened new : Device) : Type 0 where
    pub began : Known
    pub nothing : HasPast began (plan h) no_past opened
    pub layout : began.layout ≡ l
    pub threads : began.threads ≡ h.plan.lanes
    pub now : Past
    -- Where the closing after threads was stopped, whatever a crash left since the opening shows a whole closed cut of a beginning of what
    -- was applied.
    pub ran : HasRun l h.plan.lanes (plan h) no_past opened now new
    -- Where the closing after threads was stopped, what these calls have applied is a legal log.
    pub legal : IsLegal (plan h) (applied now)
    -- Where the closing after threads was stopped, recovery accepts whatever a crash left since the opening.
    pub takes : TakesEach opened new
    pub ended : List Ended
    pub are : HaveEnded ended
    -- Where the closing after threads was stopped, no crash takes back what a thread had read as stable.
    pub durable : KeepsReadsNow ended new

  -- The heap was closed on this device, one session a lane, and none of them held a monitor; one legal history has what each was told as its part, and the
  -- device that closing gave back stands for its heap. Recovery keeps whole sections of that same history, of whatever a crash left until then.
  -- After it there was a recovery, maybe cut off, and nothing else; and recovery accepts whatever a crash left since the heap was opened.
  pub record IsLeftBehind (closed opened new : Device) : Type 0 where
    pub ended : List Ended
    pub are : HaveEnded ended
    pub none : HoldNone ended
    pub complete : IsComplete h.plan.lanes ended
    pub ran : IsClosed h l ended closed
    -- After the closing, recovery would have kept whole sections of the closing's history at each moment before.
    pub keeps : KeepsEach h l ran.history opened closed
    -- Once a heap is closed, no crash takes back what a thread had read as stable, until recovery has begun.
    pub durable : KeepsReadsNow ended closed
    -- After the closing the device is what a recovery left, which may be cut off.
    pub cut_off : IsCutOff closed new
    -- After the closing recovery accepts whatever a crash left since the opening.
    pub takes : TakesEach opened new

  -- So it is, and the device that the closing gave back wasn't recovered.
  pub record IsLostAfter (opened new : Device) (e : RecoverError) : Type 0 where
    pub closed : Device
    pub left : IsLeftBehind closed opened new
    -- Recovery accepts what a good closing of a run of threads gave back. Where it isn't recovered, a call of the device
    -- has failed since, memory ran out, or its control is at its last sequence.
    pub refused : LosesClosed closed new e

  -- What recovery makes of each image that a crash left at any moment since a heap was opened on the one device, where its run was stopped so on
  -- the other, and what that one is. It accepts them all. Where some thread wasn't made, or memory ran out before the heap was closed, it keeps
  -- whole sections of one history, each with all that it depends on.
  abbrev pub CrashesOf : (opened new : Device) → RunError → Type 0
  CrashesOf opened new NoMemory = KeepsSome h l opened new ⊎ ((closed : Device) × IsLeftBehind closed opened new)
  CrashesOf opened new (Helper e) = (ended : List Ended) × HaveLeft ended opened new
  CrashesOf opened new NoThread = KeepsSome h l opened new
  CrashesOf opened new Unfinished = HaveLeftOpen opened new
  CrashesOf opened new (Close e) = IsLeftByCalls opened new
  CrashesOf opened new (Recover e) = IsLostAfter opened new e
  CrashesOf opened new _ = ⊥

-- Recovery accepts whatever a crash leaves of a device that was recovered, and on which nothing was done since.
abbrev pub RecoveredLaw : Type 0
RecoveredLaw = (d : Device) (l : Layout) (rows : List GuardRow) (slot : Slot) (sequence : ℕ) (heap : List ℕ) → IsRecovered d l rows slot sequence heap → TakesEach d d

-- It does of a run of a store.
abbrev pub RunTakenLaw : Type 0
RunTakenLaw = (x : Known) (s : Setting) (p q : Past) (old new : Device) → HasPast x s p old → HasRun x.layout x.threads s p old q new → TakesEach old new

-- And then of a recovery of what that left, wherever it ends.
abbrev pub RecoveryTakenLaw : Type 0
RecoveryTakenLaw = (old ran new : Device) → length old.past ≤ length ran.past → TakesEach old ran → IsCutOff ran new → TakesEach old new
