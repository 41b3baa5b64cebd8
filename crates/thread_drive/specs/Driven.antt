-- What workers leave of a heap.
use Rattle.std.specs.Prelude.{ℕ, ◌≡◌, ◌<◌, List, [], replicate, slice_index, take, Ok}
use Rattle.block_disk.specs.Device.{Device, synced}
use Rattle.block_disk.specs.Images.{LeavesOnly}
use Rattle.guards.specs.Schema.{Declarations, field_count}
use Rattle.heap_model.specs.declared.limits.TheConstants.{LAST_NUMBER}
use Rattle.thread_work.specs.Bodies.{WereCalled}
use Rattle.thread_work.specs.declared.outcome.Outcome.{Outcome}
use Rattle.image_parts.specs.Calls.{after}
use Rattle.image_parts.specs.Format.{format_calls}
use Rattle.image_parts.specs.Layout.{size_of}
use Rattle.image_parts.specs.Recovered.{Parts}
use Rattle.image_parts.specs.declared.layout.Layout.{Layout}
use Rattle.monitor.specs.Seats.{Home}
use Rattle.recover.specs.Recovery.{IsOnTheWay, IsRecovery}
use Rattle.recover.specs.Study.{IsStudyOf}
use Rattle.recover.specs.declared.report.Report.{Report}
use Rattle.recover.specs.declared.studied.Study.{Study}
use Rattle.thread_heap.specs.Closed.{IsClosed}
use Rattle.store_image.specs.Formatting.{layout_with}
use Rattle.trim_helper.specs.declared.ended.Ended.{Ended}
use Rattle.trim_helper.specs.Endings.{HoldNone, IsComplete}
use Rattle.thread_work.specs.Crashes.{KeepsEach}
use Rattle.thread_drive.specs.Schemas.{IsOfWorkers, schema_of}
use Rattle.thread_drive.specs.Working.{HasCounted}
use Rattle.thread_drive.specs.declared.driven.Driven.{Driven}

-- zero bytes, of the size of so many workers' image, of which nothing was asked yet
abbrev pub blank_device : (workers : ℕ) → Device
blank_device workers = record { name = []; now = record { bytes = replicate (size_of (layout_with (schema_of workers) workers 4000)) 0; pending = [] }; past = []; failures = 0 }

-- what workers have done, by what the heap's threads leave
abbrev pub driven_by : Outcome → Driven
driven_by outcome = record { acknowledged = outcome.acknowledged; heap = outcome.heap }

module _ {D : Type 0} (device : D → Device) where
  -- Recovery has this of a device that was recovered, and tells what so many workers have done. A crash of it leaves images on its way.
  pub record IsTold (workers : ℕ) (closed : Device) (now : Parts D) (driven : Driven) : Type 0 where
    pub report : Report
    pub recovery : IsRecovery closed (device now.disk) now report
    -- The sections that are told are those of the workers that recovery kept.
    pub acknowledged : driven.acknowledged.items ≡ take workers report.kept.counts
    -- The heap that is told is the one that recovery gives.
    pub heap : driven.heap.items ≡ now.heap
    -- Whatever a crash leaves of the recovery after the closing, once its first sync was answered, is an image on
    -- recovery's way.
    pub any_moment : (s : Study) → IsStudyOf closed.now.bytes s → LeavesOnly (synced closed) (device now.disk) (IsOnTheWay s)

  -- A heap ran by these words, since it was opened on this device. There was one session a worker, and none of them held a monitor at the
  -- end. One legal history has what each was told as its part, the device stood for its heap, and what recovery finds there is told.
  -- Whatever a crash had left at any moment of the run, recovery would have taken, and kept whole sections of that same history.
  pub record IsRunBy (shared : Home) (layout : Layout) (opened : Device) (now : Parts D) (driven : Driven) : Type 0 where
    pub ended : List Ended
    -- No session held a monitor at the end.
    pub none : HoldNone ended
    -- There was one session a worker.
    pub complete : IsComplete shared.plan.lanes ended
    -- Each worker has worked with the session of its lane, to its end: none was refused.
    pub called : WereCalled HasCounted shared layout.capacity (Ok tt) ended
    pub disk : D
    -- One legal history has what each session was told as its part, and the device that was closed stands for its heap.
    pub closed : IsClosed shared layout ended (device disk)
    -- Whatever a crash had left at any moment from the opening to the closing, recovery would have accepted. It would
    -- have kept whole sections of that same history, each with all that it depends on.
    pub crashes : KeepsEach shared layout closed.history opened (device disk)
    pub told : IsTold shared.plan.lanes (device disk) now driven

  -- So many workers ran on a heap of this schema, from the values that it had, on the device that had them.
  pub record IsDriven (schema : Declarations) (workers : ℕ) (was now : Parts D) (driven : Driven) : Type 0 where
    pub shared : Home
    pub plan : shared.plan ≡ record { schema = schema; first = was.heap; last = LAST_NUMBER; lanes = workers }
    pub run : IsRunBy shared was.layout (device was.disk) now driven

  -- Formatting this device has made this image for so many workers, with lanes of 4,000 records: each value is 0. Nothing else was asked of it.
  pub record IsMadeOf (workers : ℕ) (old : Device) (made : Parts D) : Type 0 where
    pub layout : made.layout ≡ layout_with (schema_of workers) workers 4000
    -- On a new image each value is 0 at first.
    pub first : (f : ℕ) → f < field_count (schema_of workers) → slice_index made.heap f ≡ 0
    -- A new image is what formatting the given device has made, so that no earlier image is kept.
    pub calls : device made.disk ≡ after (format_calls made.layout (schema_of workers)) old

  -- A heap of so many workers ran from its beginning: on the image that formatting this device had made. This is what was left.
  pub record HasDriven (workers : ℕ) (old : Device) (now : Parts D) (driven : Driven) : Type 0 where
    pub was : Parts D
    pub made : IsMadeOf workers old was
    pub theirs : IsOfWorkers workers was.layout was.guards
    pub driven_so : IsDriven (schema_of workers) workers was now driven

  -- A heap of so many workers ran on: from what recovery found on this device. This is what was left.
  pub record HasDrivenOn (workers : ℕ) (old : Device) (now : Parts D) (driven : Driven) : Type 0 where
    pub was : Parts D
    pub report : Report
    pub found : IsRecovery old (device was.disk) was report
    -- The heap that workers go on with fits the workers' schema.
    pub theirs : IsOfWorkers workers was.layout was.guards
    pub driven_so : IsDriven (schema_of workers) workers was now driven
