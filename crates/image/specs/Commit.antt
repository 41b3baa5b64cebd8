-- A commit of a control: it is written into the slot that isn't chosen, behind a closed gate (this project's own).
use Rattle.std.specs.Prelude.{◌≡◌, ◌≢◌, ◌⊎◌, ◌==◌, ℕ, ◌+◌, ◌≤◌, List, [], ◌∷◌, ◌++◌, length, slice_index, drop, if◌then◌else◌}
use Rattle.block_disk.specs.Device.{Device, Range, SameOutside}
use Rattle.block_disk.specs.Images.{ImageBut, Always}
use Rattle.image_parts.specs.Calls.{Call, Write, Sync}
use Rattle.image_parts.specs.Control.{control_bytes}
use Rattle.image_parts.specs.Slots.{other, slot_at, body_at, slot_range, gate, body, sequence_of, Shows}
use Rattle.image_parts.specs.declared.layout.Layout.{Layout}
use Rattle.image_parts.specs.declared.control.Control.{Control}
use Rattle.image_parts.specs.declared.slot.Slot.{Slot}

-- closing a gate: one that reads closed is left alone, since a crash may leave any byte that is written
abbrev pub closing_calls : ℕ → List ℕ → List Call
closing_calls at image = if slice_index image at == 165 then Write at (0 ∷ []) ∷ Sync ∷ [] else []

-- the body behind the closed gate, and then the gate
abbrev pub body_calls : Slot → List ℕ → List Call
body_calls s bytes = Write (body_at s) bytes ∷ Sync ∷ Write (slot_at s) (165 ∷ []) ∷ Sync ∷ []

-- a commit of these bytes over a device that reads so, where this slot is chosen: six calls or four
abbrev pub commit_calls : Slot → List ℕ → List ℕ → List Call
commit_calls chosen image bytes = closing_calls (slot_at (other chosen)) image ++ body_calls (other chosen) bytes

-- every image shows this control, and the other slot's gate is as it reads
pub record IsSteady (l : Layout) (d : Device) (s : Slot) (c : Control) : Type 0 where
  pub fits : 2160 ≤ length d.now.bytes
  pub shows : Always d (λ image. Shows l image s c)
  pub gate : Always d (λ image. gate (other s) image ≡ gate (other s) d.now.bytes)

-- an image from before the commit, but for the slot that isn't chosen; it shows the old control or the new one
pub record OldOrNew (l : Layout) (d : Device) (chosen : Slot) (old new : Control) (image : List ℕ) : Type 0 where
  pub from : ImageBut d (slot_range (other chosen) ∷ []) image
  pub shows : Shows l image chosen old ⊎ Shows l image (other chosen) new

-- an image from before, but for the byte at this place, which is a closed gate or as it was
pub record ClosedOrSame (d : Device) (at : ℕ) (image : List ℕ) : Type 0 where
  pub from : ImageBut d (record { start = at; len = 1 } ∷ []) image
  pub closed : (slice_index image at ≢ 165) ⊎ (slice_index image at ≡ slice_index d.now.bytes at)

-- closing a gate with no sync of its own: one that reads closed is left alone
abbrev pub shutting_calls : ℕ → List ℕ → List Call
shutting_calls at image = if slice_index image at == 165 then Write at (0 ∷ []) ∷ [] else []

-- a commit over writes that are still pending: the closed gate is made durable together with them
abbrev pub pending_calls : Slot → List ℕ → List ℕ → List Call
pending_calls chosen image bytes = shutting_calls (slot_at (other chosen)) image ++ Sync ∷ body_calls (other chosen) bytes

-- an image from before, but for the slot that isn't chosen; it shows the control that counts
pub record StillShows (l : Layout) (d : Device) (chosen : Slot) (c : Control) (image : List ℕ) : Type 0 where
  pub from : ImageBut d (slot_range (other chosen) ∷ []) image
  pub shows : Shows l image chosen c

-- an image from before the commit, but for the slot that isn't chosen; it shows the old control, or the new one, and then
-- all that was written before the commit is there
pub record OldOrDurable (l : Layout) (d : Device) (chosen : Slot) (old new : Control) (image : List ℕ) : Type 0 where
  pub from : ImageBut d (slot_range (other chosen) ∷ []) image
  pub shows : Shows l image chosen old ⊎ (Shows l image (other chosen) new × SameOutside (slot_range (other chosen) ∷ []) d.now.bytes image)

-- both slots
abbrev pub slots_range : Range
slots_range = record { start = 64; len = 2096 }

-- an image from before, but for the slots; it shows the old control, or the new one, and then all that was written before
-- the commit is there
pub record OldOrTurned (l : Layout) (d : Device) (chosen : Slot) (old new : Control) (image : List ℕ) : Type 0 where
  pub from : ImageBut d (slots_range ∷ []) image
  pub shows : Shows l image chosen old ⊎ (Shows l image (other chosen) new × SameOutside (slots_range ∷ []) d.now.bytes image)

-- a commit by closing the gate of the slot that is chosen, where the rest of a body is written behind the other slot's sequence
abbrev pub turning_calls : Slot → List ℕ → List Call
turning_calls chosen rest = Write (body_at (other chosen) + 8) rest ∷ Sync ∷ Write (slot_at chosen) (0 ∷ []) ∷ Sync ∷ []

-- the sequence of the control that a commit by one gate makes: the one that stands behind the other slot's open gate, or else
-- the next one. A sequence of 0 is no control's
abbrev pub turned_sequence : Slot → ℕ → List ℕ → ℕ
turned_sequence chosen sequence image =
    if gate (other chosen) image == 165 then (if sequence_of (body (other chosen) image) == 0 then sequence + 1 else sequence_of (body (other chosen) image)) else sequence + 1

-- the calls of a commit of this control by one gate, over a device that reads so: four, and up to six where sequence 0 stands
-- behind the other slot's open gate
abbrev pub turned_calls : Slot → List ℕ → Control → List Call
turned_calls chosen image next =
    if gate (other chosen) image == 165 then (if sequence_of (body (other chosen) image) == 0 then pending_calls chosen image (control_bytes next) else turning_calls chosen (drop 8 (control_bytes next))) else body_calls (other chosen) (control_bytes next)
