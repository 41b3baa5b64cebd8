use Rattle.block_disk.specs.Memory.{device_of}
use Rattle.image_parts.specs.Control.{empty_control}
use Rattle.image_parts.specs.declared.slot.Slot.TheVariants.{A}
use Rattle.image_tests.proofs.images.steady_of.Goals as goal

pub returns-clause-steady : goal.returns-clause-steady
returns-clause-steady c =
    c.steady_law.ensures.now c.in_ok-disk.layout (device_of c.in_ok-disk.disk) A (empty_control 1) c.in_ok-disk.ensures.durable c.in_ok-disk.ensures.fresh.control
