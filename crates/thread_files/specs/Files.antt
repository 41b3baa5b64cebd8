-- Threads on the image at a path (this project's own).
use Rattle.std.specs.Prelude.{ℕ, ◌≡◌, ◌⊎◌, false, List, [], Option}
use Rattle.block_disk.specs.Device.{Device, new_device}
use Rattle.guards.specs.Schema.{Declarations}
use Rattle.thread_work.specs.Bodies.{Answer}
use Rattle.thread_work.specs.ImageLanes.{lanes_for}
use Rattle.thread_work.specs.Runs.{HasRunOn, Holds, RefusesOn}
use Rattle.thread_work.specs.declared.error.RunError.{RunError}
use Rattle.thread_work.specs.declared.outcome.Outcome.{Outcome}
use Rattle.image_parts.specs.Recovered.{Parts}
use Rattle.image_parts.specs.declared.layout.Layout.{Layout}
use Rattle.image_file.specs.Formatting.{IsBeforeFile, IsImageFor, StaysOrIsMade}
use Rattle.image_file.specs.Images.{IsLeft, IsThere}
use Rattle.image_file.specs.declared.error.FormatError.{FormatError}
use Rattle.disk_sector_file.specs.declared.image_kind.ImageKind.TheVariants.{Plain}
use Rattle.image_file.specs.declared.new_image.NewImage.{NewImage}
use Rattle.monitor.specs.Seats.{Home}
use Rattle.recover.specs.declared.report.Report.{Report}
use Rattle.session.specs.declared.session.Session.{Session}
use Rattle.store_image.specs.Formatting.{AreLimits}
use Rattle.thread_files.specs.declared.error.FileRunError.{FileRunError}
use Rattle.thread_files.specs.declared.error.FileRunError.TheVariants.{File, Format, Run}
use Rattle.thread_files.specs.declared.plan.FilePlan.{FilePlan}

-- the disk of the image that was at a path, of which nothing was asked yet
pub record IsOpenedAt (had : Option (List ℕ)) (d : Device) : Type 0 where
  pub fresh : d ≡ new_device d.now.bytes
  pub was : IsThere d.now.bytes had

-- what is asked for where there is no image yet: a lane for each thread and the helper's, with logs as the plan says, in one place
abbrev pub asked_for : FilePlan → NewImage
asked_for plan = record { lanes = lanes_for plan.threads; capacity = plan.lane_records; kind = Plain; is_kept = false }

-- the disk of an image that was made for threads
abbrev pub IsMadeAt : (schema : Declarations) (plan : FilePlan) → Device → Type 0
IsMadeAt schema plan d = (layout : Layout) × IsImageFor schema (asked_for plan) layout d

-- Threads begin with this disk: that of the image at a path, or one that was made for them where there was none.
abbrev pub BeginsAt : {D : Type 0} (device : D → Device) (schema : Declarations) (plan : FilePlan) (had : Option (List ℕ)) → D → Type 0
BeginsAt device schema plan had disk = IsOpenedAt had (device disk) ⊎ (IsThere [] had × IsMadeAt schema plan (device disk))

-- no image is made for threads, and that for its numbers only where it may have none. What was there stays, or a whole new one is there
pub record IsNotMade (schema : Declarations) (plan : FilePlan) (had has : Option (List ℕ)) (e : FormatError) : Type 0 where
  pub numbers : IsBeforeFile e → AreLimits (lanes_for plan.threads) plan.lane_records → ⊥
  pub left : StaysOrIsMade schema (asked_for plan) had has

abbrev pub HasNoImage : (schema : Declarations) (plan : FilePlan) (had has : Option (List ℕ)) → FileRunError → Type 0
HasNoImage schema plan had has (Format e) = IsNotMade schema plan had has e
HasNoImage schema plan had has _ = ⊥

-- there is no disk for threads: none is had, and the image stays; or none is made
abbrev pub HasNoDisk : (schema : Declarations) (plan : FilePlan) (had has : Option (List ℕ)) → FileRunError → Type 0
HasNoDisk schema plan had has (File e) = has ≡ had
HasNoDisk schema plan had has fault = HasNoImage schema plan had has fault

-- what is on this disk is at the path
abbrev pub LeavesAt : {D : Type 0} (device : D → Device) → Parts D → (has : Option (List ℕ)) → Type 0
LeavesAt device now has = IsThere (device now.disk).now.bytes has

-- what a body does, and the device of a disk
module _ (does : Home → Session → Session → Answer → Type 0) {D : Type 0} (device : D → Device) where
  -- Threads have run on the image at a path, and what they have left is there now. This is told of it.
  pub record HasRunAt (schema : Declarations) (plan : FilePlan) (had has : Option (List ℕ)) (told : Outcome × Report) : Type 0 where
    pub opened : D
    pub begun : BeginsAt device schema plan had opened
    pub theirs : Holds schema plan.threads (device opened).now.bytes
    pub now : Parts D
    -- What threads tell of an image file is what they did on the device that it is.
    pub so : HasRunOn does device schema plan.threads (device opened) told.1 now told.0
    pub left : LeavesAt device now has

  -- threads don't go on with this image: what is there is what the disk may leave
  pub record RefusesRun (schema : Declarations) (plan : FilePlan) (had has : Option (List ℕ)) (e : RunError) : Type 0 where
    pub opened : D
    pub begun : BeginsAt device schema plan had opened
    pub after : Device
    pub refused : RefusesOn does device schema plan.threads (device opened) after e
    pub left : IsLeft after.now has

  -- threads don't run on the image at a path
  abbrev pub RefusesAt : (schema : Declarations) (plan : FilePlan) (had has : Option (List ℕ)) → FileRunError → Type 0
  RefusesAt schema plan had has (Run e) = RefusesRun schema plan had has e
  RefusesAt schema plan had has fault = HasNoDisk schema plan had has fault
