-- What threads leave of a heap.
use Rattle.std.specs.Prelude.{ℕ, ◌≡◌, List, take}
use Rattle.std.specs.List.{range_with_len}
use Rattle.block_disk.specs.Device.{Device, synced}
use Rattle.block_disk.specs.Images.{LeavesOnly}
use Rattle.guards.specs.Schema.{Declarations}
use Rattle.image_parts.specs.Recovered.{Parts}
use Rattle.image_parts.specs.declared.layout.Layout.{Layout}
use Rattle.monitor.specs.Seats.{Home}
use Rattle.recover.specs.Recovery.{IsOnTheWay, IsRecovery}
use Rattle.recover.specs.Study.{IsStudyOf}
use Rattle.recover.specs.declared.report.Report.{Report}
use Rattle.recover.specs.declared.studied.Study.{Study}
use Rattle.thread_heap.specs.Closed.{IsClosed}
use Rattle.session.specs.declared.session.Session.{Session}
use Rattle.heap_model.specs.Past.{Past}
use Rattle.trim_helper.specs.Parts as helpers
use Rattle.trim_helper.specs.declared.ended.Ended.{Ended}
use Rattle.trim_helper.specs.Endings.{HoldNone, IsComplete, lanes_ended}
use Rattle.thread_work.specs.Bodies.{Answer, WereCalled}
use Rattle.thread_work.specs.Crashes.{KeepsEach}
use Rattle.thread_work.specs.Serving.{IsLiving}
use Rattle.thread_work.specs.Stops.{IsHomeOf}
use Rattle.thread_work.specs.declared.outcome.Outcome.{Outcome}

-- Recovery has this of a device that was recovered, and tells so many sections of each of so many lanes, and these values. A crash of it leaves images on its way.
pub record IsTold {D : Type 0} (device : D → Device) (lanes : ℕ) (closed : Device) (now : Parts D) (outcome : Outcome) : Type 0 where
  pub report : Report
  pub recovery : IsRecovery closed (device now.disk) now report
  -- The sections that a run of threads tells at its end are those of its threads that recovery kept.
  pub acknowledged : outcome.acknowledged.items ≡ take lanes report.kept.counts
  -- The heap that a run of threads tells at its end is the one that recovery gives.
  pub heap : outcome.heap.items ≡ now.heap
  -- Whatever a crash leaves of the recovery after the closing, once its first sync was answered, is an image on
  -- recovery's way.
  pub any_moment : (s : Study) → IsStudyOf closed.now.bytes s → LeavesOnly (synced closed) (device now.disk) (IsOnTheWay s)

-- what a body does
module _ (does : Home → Session → Session → Answer → Type 0) {D : Type 0} (device : D → Device) where
  -- A heap ran by these words, since it was opened on this device. A body was called for each thread, and none held a monitor at the end. One
  -- legal history has what each session was told as its part, the device stood for its heap, and what recovery finds there is told.
  pub record IsRunBy (shared : Home) (layout : Layout) (opened : Device) (now : Parts D) (outcome : Outcome) : Type 0 where
    -- what the sessions left, by lane
    pub ended : List Ended
    pub lanes : lanes_ended ended ≡ range_with_len 0 shared.plan.lanes
    -- A body was called for each thread, with a session of the heap that was told nothing, and has done with it what its
    -- `Work` says. What is answered is the refusal of the least lane whose body has answered one.
    pub called : WereCalled does shared layout.capacity outcome.answer ended
    -- No body's thread held a monitor at the end of a run that was closed.
    pub none : HoldNone ended
    pub complete : IsComplete shared.plan.lanes ended
    pub disk : D
    -- One legal history has what each thread was told as its part, and the device that was closed stands for its heap.
    pub closed : IsClosed shared layout ended (device disk)
    -- Whatever a crash had left at any moment from the opening to the closing of a run of threads, recovery would have
    -- accepted. It would have kept whole sections of that same history, each with all that it depends on.
    pub crashes : KeepsEach shared layout closed.history opened (device disk)
    pub told : IsTold device shared.plan.lanes (device disk) now outcome

  -- So it ran since its opening, whatever its helper had lived through until now.
  abbrev pub EndsRun : (shared : Home) (helper : helpers.Parts D) (now : Parts D) (outcome : Outcome) → Type 0
  EndsRun shared helper now outcome = (opened : Device) (p : Past) → IsLiving device shared opened helper p → IsRunBy shared helper.store.known.layout opened now outcome

  -- A heap of this schema ran with so many threads, from the values that it had, on the device that had them.
  pub record HasRunFrom (schema : Declarations) (threads : ℕ) (was now : Parts D) (outcome : Outcome) : Type 0 where
    pub shared : Home
    pub plan : IsHomeOf schema was.heap threads shared
    pub run : IsRunBy shared was.layout (device was.disk) now outcome
