-- How a run of workers ends, and what is written of it.
use Rattle.std.specs.Prelude.{ℕ, ◌≡◌, ◌⊎◌, false, List, [], Option, None, Some, Result, Ok, Err}
use Rattle.std.specs.Borrow.{Bor}
use Rattle.std.specs.Io.KnownBytes.{Appends}
use Rattle.block_disk.specs.Device.{Device, new_device}
use Rattle.block_disk.specs.Memory.{Memory, device_of}
use Rattle.thread_drive.specs.Driven.{HasDriven, HasDrivenOn, blank_device}
use Rattle.thread_drive.specs.declared.driven.Driven.{Driven}
use Rattle.thread_drive.specs.Schemas.{HoldsWorkers, schema_of}
use Rattle.image_parts.specs.Recovered.{Parts}
use Rattle.image_parts.specs.declared.layout.Layout.{Layout}
use Rattle.image_file.specs.Formatting.{IsImageFor}
use Rattle.image_file.specs.Images.{IsThere}
use Rattle.disk_sector_file.specs.declared.image_kind.ImageKind.TheVariants.{Plain}
use Rattle.image_file.specs.declared.new_image.NewImage.{NewImage}
use Rattle.inspect.specs.Written.{AppendsPart}
use Rattle.heapctl_commands.specs.DrivenText.{driven_text}
use Rattle.heapctl_commands.specs.declared.fault.WorkFault.{WorkFault}
use Rattle.heapctl_commands.specs.declared.fault.WorkFault.TheVariants.{Drive, File, Format, Write}

-- the disk of the image that was at a path, of which nothing was asked yet
pub record IsOpenedAt (had : Option (List ℕ)) (d : Device) : Type 0 where
  pub fresh : d ≡ new_device d.now.bytes
  pub was : IsThere d.now.bytes had

-- what is asked for where workers have no image yet: their own, in one place
abbrev pub asked_by : (workers : ℕ) → NewImage
asked_by workers = record { lanes = workers; capacity = 4000; kind = Plain; is_kept = false }

-- the disk of an image that was made for so many workers
abbrev pub IsMadeAt : (workers : ℕ) → Device → Type 0
IsMadeAt workers d = (layout : Layout) × IsImageFor (schema_of workers) (asked_by workers) layout d

-- so many workers begin with this disk: that of the image at a path, or one that was made where there was none
abbrev pub BeginsAt : (workers : ℕ) (had : Option (List ℕ)) → Device → Type 0
BeginsAt workers had d = IsOpenedAt had d ⊎ (IsThere [] had × IsMadeAt workers d)

module _ {D : Type 0} (device : D → Device) where
  -- what is on this disk is at the path
  abbrev pub LeavesAt : Parts D → (has : Option (List ℕ)) → Type 0
  LeavesAt now has = IsThere (device now.disk).now.bytes has

  -- so many workers have worked on the image at a path, and what they have left is there now
  pub record DrivesAt (workers : ℕ) (had has : Option (List ℕ)) (driven : Driven) : Type 0 where
    pub opened : Device
    pub begun : BeginsAt workers had opened
    pub theirs : HoldsWorkers workers opened.now.bytes
    pub now : Parts D
    pub so : HasDrivenOn device workers opened now driven
    pub left : LeavesAt now has

  -- so many workers have worked on an image where a path was named, and else in memory
  abbrev pub WorkedAt : (image : Option (Bor (List ℕ))) (workers : ℕ) (had has : List ℕ → Option (List ℕ)) → Driven → Type 0
  WorkedAt None workers had has driven = (now : Parts Memory) × HasDriven device_of workers (blank_device workers) now driven
  WorkedAt (Some path) workers had has driven = DrivesAt workers (had path.now) (has path.now) driven

-- workers have worked so, and the lines that tell it are written
pub record IsTold (worked : Driven → Type 0) (old new : Option (List ℕ)) : Type 0 where
  pub driven : Driven
  pub so : worked driven
  pub written : Appends old new (driven_text driven)

-- workers have worked so, and a beginning of the lines is written, and not all
pub record IsPartlyTold (worked : Driven → Type 0) (old new : Option (List ℕ)) : Type 0 where
  pub driven : Driven
  pub so : worked driven
  pub written : AppendsPart old new (driven_text driven)

-- what is written, by how the run ended: where the workers haven't worked it is refused so, and nothing is written
abbrev pub Drives : (worked : Driven → Type 0) (refused : WorkFault → Type 0) → Result (Unit {0}) WorkFault
    → (old new : Option (List ℕ)) → Type 0
Drives worked refused (Ok done) old new = IsTold worked old new
Drives worked refused (Err Write) old new = IsPartlyTold worked old new
Drives worked refused (Err (Drive e)) old new = refused (Drive e) × Appends old new []
Drives worked refused (Err (File e)) old new = refused (File e) × Appends old new []
Drives worked refused (Err (Format e)) old new = refused (Format e) × Appends old new []
Drives worked refused (Err _) old new = ⊥
