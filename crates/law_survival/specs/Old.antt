-- Images that a store of version 1 left, which had no transient fields (this project's own).
use Rattle.std.specs.Prelude.{ℕ, ◌≡◌, ◌<◌, ◌≤◌, true, List, []}
use Rattle.heap_model.specs.Setting.{Setting}
use Rattle.image_parts.specs.Slots.{Shows}
use Rattle.image_parts.specs.declared.control.Control.{Control}
use Rattle.image_parts.specs.declared.layout.Layout.{Layout}
use Rattle.image_parts.specs.declared.slot.Slot.{Slot}
use Rattle.undo_log.specs.Dropped.{undo_logs}
use Rattle.store_image.specs.Consistent.{HasParts, TellsCut}
use Rattle.heap_model.specs.Past.{Past, IsPast}

-- A store of this past left this image, with a control of this version: all else is as a store of today leaves it, but that version 1
-- has no transient field.
pub record IsLeftOf (version : ℕ) (l : Layout) (s : Setting) (p : Past) (image : List ℕ) : Type 0 where
  pub past : IsPast s p
  pub lanes : (lane : ℕ) → l.lanes ≤ lane → undo_logs p.logged lane ≡ []
  pub slot : Slot
  pub control : Control
  pub shows : Shows l image slot control
  pub version_is : control.version ≡ version
  pub tells : TellsCut l p.logged p.base p.cut control.rows
  pub parts : HasParts l s p.logged p.base p.cut image
  pub persistent : version ≡ 1 → (f : ℕ) → f < l.fields → s.is_logged f ≡ true

-- a store of version 1 left it
abbrev pub IsLeftByOld : Layout → Setting → Past → List ℕ → Type 0
IsLeftByOld l s p image = IsLeftOf 1 l s p image
