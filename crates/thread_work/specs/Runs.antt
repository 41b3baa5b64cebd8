-- Threads on a device from the image on: one that was made, or one that was found; and which refusal comes when.
use Rattle.std.specs.Prelude.{ℕ, ◌≡◌, ◌⊎◌, ◌<◌, ◌≤◌, List, slice_index}
use Rattle.block_disk.specs.Device.{Device, HasFailed, SameMoments, synced}
use Rattle.guards.specs.Schema.{Declarations, field_count, first_of}
use Rattle.image_parts.specs.Calls.{after}
use Rattle.image_parts.specs.Format.{format_calls}
use Rattle.image_parts.specs.Recovered.{Parts}
use Rattle.image_parts.specs.declared.guard_row.GuardRow.{GuardRow}
use Rattle.image_parts.specs.declared.layout.Layout.{Layout}
use Rattle.monitor.specs.Seats.{Home}
use Rattle.recover.specs.Reading.{IsOfOldVersion, RefusesImage}
use Rattle.recover.specs.Recovery.{IsCutOff, IsRecovery, IsWorn}
use Rattle.recover.specs.Study.{IsStudyOf}
use Rattle.recover_heap.specs.declared.error.RecoverError.{RecoverError}
use Rattle.recover_heap.specs.declared.error.RecoverError.TheVariants as recover
use Rattle.recover.specs.declared.report.Report.{Report}
use Rattle.recover.specs.declared.studied.Study.{Study}
use Rattle.session.specs.declared.session.Session.{Session}
use Rattle.store_image.specs.Formatting.{RefusesFormat, layout_with}
use Rattle.trim_helper.specs.Opening.{FitsSchema}
use Rattle.thread_work.specs.Bodies.{Answer}
use Rattle.thread_work.specs.ImageLanes.{HasLanesFor, lanes_for}
use Rattle.thread_work.specs.Outcomes.{HasRunFrom}
use Rattle.thread_work.specs.Stops.{StopsRun}
use Rattle.thread_work.specs.declared.error.RunError.{RunError}
use Rattle.thread_work.specs.declared.error.RunError.TheVariants.{Image, Recover, OtherSchema}
use Rattle.thread_work.specs.declared.outcome.Outcome.{Outcome}

-- an image of this layout with these guard rows is of this schema, with lanes for so many threads
pub record IsOf (schema : Declarations) (threads : ℕ) (layout : Layout) (guards : List GuardRow) : Type 0 where
  pub lanes : HasLanesFor threads layout.lanes
  pub fits : FitsSchema schema layout guards

-- this is an image of this schema, with lanes for so many threads
abbrev pub Holds : (schema : Declarations) (threads : ℕ) (image : List ℕ) → Type 0
Holds schema threads image = (s : Study) × IsStudyOf image s × IsOf schema threads s.layout s.guards.items

-- this is an image of another schema, or with other lanes
abbrev pub HoldsAnother : (schema : Declarations) (threads : ℕ) (image : List ℕ) → Type 0
HoldsAnother schema threads image = (s : Study) × IsStudyOf image s × (IsOf schema threads s.layout s.guards.items → ⊥)

-- the image on a device isn't studied
abbrev pub RefusesStudy : (old new : Device) → RecoverError → Type 0
RefusesStudy old new recover.Fault = HasFailed old.failures new.failures
RefusesStudy old new e = RefusesImage old.now.bytes e

-- an image isn't one with which threads of this schema go on: it is only read
abbrev pub RefusesLook : (schema : Declarations) (threads : ℕ) (old new : Device) → RunError → Type 0
RefusesLook schema threads old new (Recover e) = RefusesStudy old new e
RefusesLook schema threads old new OtherSchema = HoldsAnother schema threads old.now.bytes
RefusesLook schema threads old new _ = ⊥

-- why an image that was studied isn't recovered
abbrev pub RefusesFinding : (old new : Device) → RecoverError → Type 0
RefusesFinding old new recover.Fault = HasFailed old.failures new.failures
RefusesFinding old new recover.OldVersion = IsOfOldVersion old.now.bytes
RefusesFinding old new recover.Worn = IsWorn old.now.bytes
RefusesFinding old new recover.NoMemory = Unit {0}
RefusesFinding old new _ = ⊥

-- An image that was studied isn't recovered, for this reason. Nothing was done then but a sync; after a fault each image that a crash leaves since then is
-- one from before, or one on recovery's way.
pub record IsNotFound (old new : Device) (e : RecoverError) : Type 0 where
  -- An image of the threads' schema is recovered, but for a fault, version 1, a worn control, or want of memory.
  pub why : RefusesFinding old new e
  -- An image of the threads' schema that isn't recovered is as it was, but that a sync was made, unless by a fault.
  pub untouched : (e ≡ recover.Fault) ⊎ SameMoments (synced old) new
  -- After a fault in a recovery before threads, each image that a crash leaves since then is one from before, or one on
  -- recovery's way.
  pub cut_off : IsCutOff old new

-- Formatting this device has made this image for so many lanes, and nothing else was asked of it.
pub record IsMadeOf {D : Type 0} (device : D → Device) (schema : Declarations) (lanes capacity : ℕ) (old : Device) (made : Parts D) : Type 0 where
  pub layout : made.layout ≡ layout_with schema lanes capacity
  -- On an image that was made for threads each field begins with the value that the schema gives it.
  pub first : (f : ℕ) → f < field_count schema → slice_index made.heap f ≡ first_of schema f
  -- An image that was made for threads is what formatting the given device has made, so that no earlier image is kept.
  pub calls : device made.disk ≡ after (format_calls made.layout schema) old

-- Recovery has found this image of this schema, with lanes for so many threads, on this device, of which it has told this.
pub record HasFound {D : Type 0} (device : D → Device) (schema : Declarations) (threads : ℕ) (old : Device) (report : Report) (was : Parts D) : Type 0 where
  pub found : IsRecovery old (device was.disk) was report
  -- A heap that was found for threads is of their schema, with a lane for each thread.
  pub theirs : IsOf schema threads was.layout was.guards
  pub later : old.failures ≤ (device was.disk).failures

-- no image of this schema with lanes for so many threads is found on a device
abbrev pub RefusesFound : (schema : Declarations) (threads : ℕ) (old new : Device) → RunError → Type 0
RefusesFound schema threads old new OtherSchema = HoldsAnother schema threads old.now.bytes × SameMoments old new
RefusesFound schema threads old new (Recover e) = (RefusesStudy old new e × SameMoments old new) ⊎ (Holds schema threads old.now.bytes × IsNotFound old new e)
RefusesFound schema threads old new _ = ⊥

-- what a body does, and the device of a disk
module _ (does : Home → Session → Session → Answer → Type 0) {D : Type 0} (device : D → Device) where
  -- A heap ran with so many threads from its beginning: on the image that formatting this device had made for them.
  pub record HasRunNew (schema : Declarations) (threads capacity : ℕ) (old : Device) (now : Parts D) (outcome : Outcome) : Type 0 where
    pub was : Parts D
    pub made : IsMadeOf device schema (lanes_for threads) capacity old was
    pub ran : HasRunFrom does device schema threads was now outcome

  -- A heap of this schema with so many threads ran on: from what recovery found on this device, of which it has told this.
  pub record HasRunOn (schema : Declarations) (threads : ℕ) (old : Device) (report : Report) (now : Parts D) (outcome : Outcome) : Type 0 where
    pub was : Parts D
    pub found : IsRecovery old (device was.disk) was report
    -- The heap that threads go on with is of their schema, with a lane for each thread.
    pub theirs : IsOf schema threads was.layout was.guards
    pub ran : HasRunFrom does device schema threads was now outcome

  -- A run was stopped that had begun on an image in this state. Until it began the device had failed no less often than at first.
  pub record IsStoppedThere (schema : Declarations) (threads : ℕ) (old : Device) (was : Parts D) (new : Device) (e : RunError) : Type 0 where
    pub later : old.failures ≤ (device was.disk).failures
    -- A run of threads on a new image, or on one that was found, is stopped only as a run of its heap is.
    pub stops : StopsRun does device schema threads was new e

  -- it had begun on the image that formatting the device had made
  pub record IsStoppedFirst (schema : Declarations) (threads capacity : ℕ) (old new : Device) (e : RunError) : Type 0 where
    pub was : Parts D
    pub made : IsMadeOf device schema (lanes_for threads) capacity old was
    pub stopped : IsStoppedThere schema threads old was new e

  -- it had begun from what recovery found on the device
  pub record IsStoppedLater (schema : Declarations) (threads : ℕ) (old new : Device) (e : RunError) : Type 0 where
    pub was : Parts D
    pub report : Report
    pub found : IsRecovery old (device was.disk) was report
    pub theirs : IsOf schema threads was.layout was.guards
    pub stopped : IsStoppedThere schema threads old was new e

  -- an image of this schema isn't recovered, or the run on it was stopped
  abbrev pub RefusesGoingOn : (schema : Declarations) (threads : ℕ) (old new : Device) → RunError → Type 0
  RefusesGoingOn schema threads old new (Recover e) = IsNotFound old new e ⊎ IsStoppedLater schema threads old new (Recover e)
  RefusesGoingOn schema threads old new e = IsStoppedLater schema threads old new e

  -- threads don't run on an image that is to be made of a device
  abbrev pub RefusesNew : (schema : Declarations) (threads capacity : ℕ) (old new : Device) → RunError → Type 0
  RefusesNew schema threads capacity old new (Image e) = RefusesFormat schema (lanes_for threads) capacity old new e
  RefusesNew schema threads capacity old new e = IsStoppedFirst schema threads capacity old new e

  -- threads don't go on with the image on a device
  abbrev pub RefusesOn : (schema : Declarations) (threads : ℕ) (old new : Device) → RunError → Type 0
  RefusesOn schema threads old new OtherSchema = HoldsAnother schema threads old.now.bytes × SameMoments old new
  RefusesOn schema threads old new (Recover e) = (RefusesStudy old new e × SameMoments old new) ⊎ (Holds schema threads old.now.bytes × RefusesGoingOn schema threads old new (Recover e))
  RefusesOn schema threads old new e = Holds schema threads old.now.bytes × RefusesGoingOn schema threads old new e

  -- No image of this disk is made for threads, or their run was stopped, and this is given back.
  abbrev pub RefusesNewOf : (schema : Declarations) (threads capacity : ℕ) (disk : D) → D × RunError → Type 0
  RefusesNewOf schema threads capacity disk back = RefusesNew schema threads capacity (device disk) (device back.0) back.1

  -- Threads don't go on with the image on this disk, and this is given back.
  abbrev pub RefusesOnOf : (schema : Declarations) (threads : ℕ) (disk : D) → D × RunError → Type 0
  RefusesOnOf schema threads disk back = RefusesOn schema threads (device disk) (device back.0) back.1
