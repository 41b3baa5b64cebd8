-- The images of machines that are down.
use Rattle.std.specs.Prelude.{ℕ, List, Option, None, Some}
use Rattle.block_disk.specs.Device.{SameMoments}
use Rattle.block_disk.specs.Memory.{Memory, device_of, fresh}
use Rattle.guards.specs.Schema.{Declarations}
use Rattle.recover.specs.Study.{IsStudyOf}
use Rattle.recover.specs.declared.studied.Study.{Study}
use Rattle.script_machine.specs.Machine.{MachineState, Declaring, Running, Down, Spent}
use Rattle.script_machine.specs.OfSchema.{FitsSchema, IsDiskOf}

-- what the device has of a machine that is down
abbrev pub image_in : MachineState → Option (List ℕ)
image_in (Declaring d) = None
image_in (Running m) = None
image_in (Down w) = Some (device_of w.disk).now.bytes
image_in Spent = None

-- A disk that was made of an image of the schema, and only read since, is one of the schema.
abbrev pub DiskLaw : Type 0
DiskLaw = (schema : Declarations) (image : List ℕ) (s : Study) (disk : Memory) → IsStudyOf image s → FitsSchema schema s.layout s.guards.items
    → SameMoments (device_of (fresh image)) (device_of disk) → IsDiskOf schema disk
