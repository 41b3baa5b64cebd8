-- Why workers haven't worked, by where they were to.
use Rattle.std.specs.Prelude.{ℕ, ◌≡◌, List, Option, None, Some}
use Rattle.std.specs.Borrow.{Bor}
use Rattle.block_disk.specs.Device.{Device}
use Rattle.block_disk.specs.Memory.{device_of}
use Rattle.thread_drive.specs.Refusals.{RefusesOn, RefusesWith}
use Rattle.thread_drive.specs.Schemas.{MayHaveImage}
use Rattle.thread_drive.specs.declared.error.DriveError.{DriveError}
use Rattle.image_file.specs.Formatting.{IsBeforeFile, MayBeMade}
use Rattle.image_file.specs.Images.{IsLeft}
use Rattle.image_file.specs.declared.error.FormatError.{FormatError}
use Rattle.heapctl_commands.specs.Telling.{BeginsAt, asked_by}
use Rattle.heapctl_commands.specs.declared.fault.WorkFault.{WorkFault}
use Rattle.heapctl_commands.specs.declared.fault.WorkFault.TheVariants.{Drive, File, Format}

-- no image is made for so many workers, and that for its numbers only where they may have none. What was there stays, or a whole new one is
-- there
pub record IsNotMade (workers : ℕ) (had has : Option (List ℕ)) (e : FormatError) : Type 0 where
  pub numbers : IsBeforeFile e → MayHaveImage workers → ⊥
  pub left : MayBeMade (asked_by workers) had has

abbrev pub HasNoImage : (workers : ℕ) (had has : Option (List ℕ)) → WorkFault → Type 0
HasNoImage workers had has (Format e) = IsNotMade workers had has e
HasNoImage workers had has _ = ⊥

-- there is no disk for so many workers: none is had, and the image stays; or none is made
abbrev pub HasNoDisk : (workers : ℕ) (had has : Option (List ℕ)) → WorkFault → Type 0
HasNoDisk workers had has (File e) = has ≡ had
HasNoDisk workers had has fault = HasNoImage workers had has fault

module _ {D : Type 0} (device : D → Device) where
  -- so many workers don't go on with this image: what is there is what the disk may leave
  pub record RefusesRun (workers : ℕ) (had has : Option (List ℕ)) (e : DriveError) : Type 0 where
    pub opened : Device
    pub begun : BeginsAt workers had opened
    pub after : Device
    pub refused : RefusesOn device workers opened after e
    pub left : IsLeft after.now has

  -- so many workers don't work on the image at a path
  abbrev pub RefusesAt : (workers : ℕ) (had has : Option (List ℕ)) → WorkFault → Type 0
  RefusesAt workers had has (Drive e) = RefusesRun workers had has e
  RefusesAt workers had has fault = HasNoDisk workers had has fault

  -- or, where no path was named, in memory
  abbrev pub RefusedAt : (image : Option (Bor (List ℕ))) (workers : ℕ) (had has : List ℕ → Option (List ℕ)) → WorkFault → Type 0
  RefusedAt None workers had has (Drive e) = RefusesWith device_of workers e
  RefusedAt None workers had has _ = ⊥
  RefusedAt (Some path) workers had has fault = RefusesAt workers (had path.now) (has path.now) fault
