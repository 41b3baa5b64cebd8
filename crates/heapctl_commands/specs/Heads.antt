-- What a slot of an image's control holds, by the image's first bytes.
use Rattle.std.specs.Prelude.{◌≡◌, ◌≢◌, ℕ, List, Result, Ok, Err}
use Rattle.image_parts.specs.Control.{Spells}
use Rattle.image_parts.specs.Slots.{body, gate}
use Rattle.image_parts.specs.declared.control.Control.{Control}
use Rattle.image_parts.specs.declared.error.ControlError.{ControlError}
use Rattle.image_parts.specs.declared.error.ControlError.TheVariants.{Fault, NoControl, BadControl}
use Rattle.image_parts.specs.declared.layout.Layout.{Layout}
use Rattle.image_parts.specs.declared.slot.Slot.{Slot}

-- a control without the slot that it was chosen of
abbrev pub alone_of : Result (Slot × Control) ControlError → Result Control ControlError
alone_of (Ok found) = Ok found.1
alone_of (Err error) = Err error

-- the slot's control, whatever the other slot holds: none where its gate is closed, and a bad one where its body spells none
abbrev pub HoldsAlone : Layout → (head : List ℕ) → Slot → Result Control ControlError → Type 0
HoldsAlone l head s (Ok c) = (gate s head ≡ 165) × Spells l (body s head) c
HoldsAlone l head s (Err Fault) = Unit {0}
HoldsAlone l head s (Err NoControl) = gate s head ≢ 165
HoldsAlone l head s (Err BadControl) = (gate s head ≡ 165) × ((c : Control) → Spells l (body s head) c → ⊥)
