-- What the crates above may count on: laws of a commit, each the contract of a public function.
use Rattle.std.specs.Prelude.{◌≡◌, List, []}
use Rattle.block_disk.specs.Device.{Device, Range}
use Rattle.block_disk.specs.Images.{Always, ImageBut, IsApart}
use Rattle.image_parts.specs.Slots.{Shows}
use Rattle.image_parts.specs.declared.control.Control.{Control}
use Rattle.image_parts.specs.declared.layout.Layout.{Layout}
use Rattle.image_parts.specs.declared.slot.Slot.{Slot}
use Rattle.image.specs.Commit.{IsSteady}

-- Steadiness: what a commit needs is there where nothing is pending, and calls that write outside of the slots keep it.

abbrev pub SteadyNow : Type 0
SteadyNow = (l : Layout) (d : Device) (s : Slot) (c : Control) → d.now.pending ≡ [] → Shows l d.now.bytes s c → IsSteady l d s c

abbrev pub SteadyStays : Type 0
SteadyStays = (l : Layout) (old new : Device) (s : Slot) (c : Control) (ranges : List Range) → IsApart 64 2096 ranges → IsSteady l old s c → Always new (ImageBut old ranges) → IsSteady l new s c
