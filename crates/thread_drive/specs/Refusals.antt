-- Which refusal of workers comes when.
use Rattle.std.specs.Prelude.{ℕ, ◌≡◌, ◌⊎◌, ◌≤◌}
use Rattle.block_disk.specs.Device.{Device, SameMoments}
use Rattle.guards.specs.declared.error.SchemaError.TheVariants as schemas
use Rattle.thread_work.specs.Runs.{IsNotFound, RefusesStudy}
use Rattle.image_parts.specs.Recovered.{Parts}
use Rattle.image_parts.specs.declared.error.ImageError.TheVariants as images
use Rattle.recover.specs.Recovery.{IsRecovery}
use Rattle.recover.specs.declared.report.Report.{Report}
use Rattle.session.specs.declared.error.SessionError.TheVariants as sessions
use Rattle.store_image.specs.Formatting.{RefusesFormat}
use Rattle.thread_drive.specs.Driven.{IsMadeOf, blank_device}
use Rattle.thread_drive.specs.Schemas.{HoldsOthers, HoldsWorkers, IsOfWorkers, MayHaveImage, schema_of}
use Rattle.thread_drive.specs.Stops.{StopsRun}
use Rattle.thread_drive.specs.declared.error.DriveError.{DriveError}
use Rattle.thread_drive.specs.declared.error.DriveError.TheVariants.{NoMemory, Schema, Image, Session, Recover, OtherSchema}

-- the size of so many workers' image isn't told
abbrev pub RefusesSize : (workers : ℕ) → DriveError → Type 0
RefusesSize workers (Schema e) = e ≡ schemas.NoMemory
RefusesSize workers (Image e) = (e ≡ images.BadHeader) × (MayHaveImage workers → ⊥)
RefusesSize workers _ = ⊥

-- Where objects and fields are the workers' own, a session refuses only as `Behind`, or because numbers have come to their end.
abbrev pub IsOwnStop : DriveError → Type 0
IsOwnStop (Session e) = (e ≡ sessions.Behind) ⊎ (e ≡ sessions.Worn)
IsOwnStop _ = Unit {0}

module _ {D : Type 0} (device : D → Device) where
  -- A run of so many workers was stopped, on an image of theirs in this state. Until it began the device had failed no less often than at first.
  pub record IsStoppedOf (workers : ℕ) (old : Device) (was : Parts D) (new : Device) (e : DriveError) : Type 0 where
    pub theirs : IsOfWorkers workers was.layout was.guards
    pub later : old.failures ≤ (device was.disk).failures
    -- A run on a new image, or on one that was found, is stopped only as a run of its heap is.
    pub stops : StopsRun device (schema_of workers) workers was new e
    -- On an image of the workers' own schema a worker's session stops a run only as `Behind` or `Worn`.
    pub own : IsOwnStop e

  -- it had begun on the image that formatting the device had made
  pub record IsStoppedFirst (workers : ℕ) (old new : Device) (e : DriveError) : Type 0 where
    pub was : Parts D
    pub made : IsMadeOf device workers old was
    pub stopped : IsStoppedOf workers old was new e

  -- it had begun from what recovery found on the device
  pub record IsStoppedLater (workers : ℕ) (old new : Device) (e : DriveError) : Type 0 where
    pub was : Parts D
    pub report : Report
    pub found : IsRecovery old (device was.disk) was report
    pub stopped : IsStoppedOf workers old was new e

  -- an image of so many workers isn't recovered, or their run on it was stopped
  abbrev pub RefusesGoingOn : (workers : ℕ) (old new : Device) → DriveError → Type 0
  RefusesGoingOn workers old new (Recover e) = IsNotFound old new e ⊎ IsStoppedLater workers old new (Recover e)
  RefusesGoingOn workers old new e = IsStoppedLater workers old new e

  -- so many workers don't work on an image that is to be made of a device
  abbrev pub RefusesNew : (workers : ℕ) (old new : Device) → DriveError → Type 0
  RefusesNew workers old new (Schema e) = (e ≡ schemas.NoMemory) × (new ≡ old)
  RefusesNew workers old new (Image e) = RefusesFormat (schema_of workers) workers 4000 old new e
  RefusesNew workers old new e = MayHaveImage workers × IsStoppedFirst workers old new e

  -- so many workers don't go on with the image on a device
  abbrev pub RefusesOn : (workers : ℕ) (old new : Device) → DriveError → Type 0
  RefusesOn workers old new (Schema e) = (e ≡ schemas.NoMemory) × (new ≡ old)
  RefusesOn workers old new OtherSchema = HoldsOthers workers old.now.bytes × SameMoments old new
  RefusesOn workers old new (Recover e) = (RefusesStudy old new e × SameMoments old new) ⊎ (HoldsWorkers workers old.now.bytes × RefusesGoingOn workers old new (Recover e))
  RefusesOn workers old new e = HoldsWorkers workers old.now.bytes × RefusesGoingOn workers old new e

  -- so many workers don't work on a new device of the size of their image
  abbrev pub RefusesWith : (workers : ℕ) → DriveError → Type 0
  RefusesWith workers NoMemory = MayHaveImage workers
  RefusesWith workers (Schema e) = e ≡ schemas.NoMemory
  RefusesWith workers (Image images.BadHeader) = MayHaveImage workers → ⊥
  RefusesWith workers (Image images.NoMemory) = MayHaveImage workers
  RefusesWith workers (Image images.Fault) = MayHaveImage workers
  RefusesWith workers (Image _) = ⊥
  RefusesWith workers e = MayHaveImage workers × (new : Device) × IsStoppedFirst workers (blank_device workers) new e
