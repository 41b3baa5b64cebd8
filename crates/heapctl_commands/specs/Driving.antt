-- How the word `drive` ends, by where workers were to work.
use Rattle.std.specs.Prelude.{ℕ, Option, List, Result}
use Rattle.std.specs.Borrow.{Bor}
use Rattle.block_disk.specs.Device.{Device}
use Rattle.heapctl_commands.specs.Faults.{RefusedAt}
use Rattle.heapctl_commands.specs.Telling.{Drives, WorkedAt}
use Rattle.heapctl_commands.specs.declared.fault.WorkFault.{WorkFault}

-- it has worked so, or is refused so, by the images that were there before and are now
abbrev pub DrivesWith : {D : Type 0} (device : D → Device) (image : Option (Bor (List ℕ))) (workers : ℕ)
    (had has : List ℕ → Option (List ℕ)) → Result (Unit {0}) WorkFault → (old new : Option (List ℕ)) → Type 0
DrivesWith device image workers had has result old new =
    Drives (WorkedAt device image workers had has) (RefusedAt device image workers had has) result old new
