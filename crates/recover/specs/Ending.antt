-- What the end of a recovery does to the device (this project's own).
use Rattle.std.specs.Prelude.{ℕ, ◌+◌, ◌⊎◌, List, [], ◌∷◌, ◌≡◌}
use Rattle.block_disk.specs.Device.{Device, synced}
use Rattle.block_disk.specs.Images.{Always, ImageBut, LeavesOnly}
use Rattle.image_parts.specs.Calls.{Call, Sync, after}
use Rattle.image.specs.Commit.{OldOrNew, commit_calls}
use Rattle.image_parts.specs.Control.{control_bytes, empty_control}
use Rattle.image_parts.specs.Slots.{Shows}
use Rattle.image_parts.specs.declared.control.Control.{Control}
use Rattle.image_parts.specs.declared.layout.Layout.{Layout}
use Rattle.image_parts.specs.declared.slot.Slot.{Slot}

-- a sync, and a commit of the control with empty logs and the next sequence
abbrev pub end_calls : (chosen : Slot) → (sequence : ℕ) → (image : List ℕ) → List Call
end_calls chosen sequence image = Sync ∷ commit_calls chosen image (control_bytes (empty_control (sequence + 1)))

-- an image from before the end, or, once all was durable, one that shows the old control or the one with empty logs
abbrev pub IsEnding : Layout → Device → (chosen : Slot) → (old : Control) → (image : List ℕ) → Type 0
IsEnding l d chosen old image = ImageBut d [] image ⊎ OldOrNew l (synced d) chosen old (empty_control (old.sequence + 1)) image

-- each image of the device shows this control
abbrev pub AlwaysShows : Layout → Device → (chosen : Slot) → (old : Control) → Type 0
AlwaysShows l d chosen old = Always d (λ image. Shows l image chosen old)

-- each image of the device shows a control with this sequence
abbrev pub ShowsSequence : Layout → Device → (chosen : Slot) → (sequence : ℕ) → Type 0
ShowsSequence l d chosen n = (old : Control) × (old.sequence ≡ n) × AlwaysShows l d chosen old

-- the device after the end
abbrev pub ended_on : (chosen : Slot) → (sequence : ℕ) → Device → Device
ended_on chosen n d = after (end_calls chosen n d.now.bytes) d

-- if each image shows one, each moment of the end leaves an image from before it, or one that shows that control or the next
abbrev pub LeavesEnding : Layout → (chosen : Slot) → (sequence : ℕ) → (old new : Device) → Type 0
LeavesEnding l chosen n d e = (old : Control) → old.sequence ≡ n → AlwaysShows l d chosen old → LeavesOnly d e (IsEnding l d chosen old)
