-- What an image of a store stands for, in the words of its past (this project's own).
use Rattle.std.specs.Prelude.{ℕ, zero, suc, ◌≡◌, ◌<◌, ◌⊎◌, List, [], ◌∷◌, ◌++◌}
use Rattle.heap_model.specs.declared.record.Record.{Record}
use Rattle.heap_model.specs.Setting.{Setting}
use Rattle.heap_model.specs.KeptHeap.{kept_value}
use Rattle.image_parts.specs.Slots.{Shows}
use Rattle.image_parts.specs.declared.layout.Layout.{Layout}
use Rattle.image_parts.specs.declared.slot.Slot.{Slot}
use Rattle.image_parts.specs.declared.control.Control.{Control}
use Rattle.undo_log.specs.StandsFor.{row_of, StandsFor}

-- the values at 0 up to n
abbrev pub values_below : (ℕ → ℕ) → ℕ → List ℕ
values_below value zero = []
values_below value (suc n) = values_below value n ++ value n ∷ []

-- the heap of a cut, by field
abbrev pub kept_heap : Layout → Setting → (log : List (ℕ × Record)) → (cut : ℕ → ℕ) → List ℕ
kept_heap l s log cut = values_below (λ f. kept_value s.first cut f log) l.fields

-- the control that the image shows has these acknowledged sections
pub record KeepsSections (l : Layout) (cut : ℕ → ℕ) (image : List ℕ) : Type 0 where
  pub slot : Slot
  pub control : Control
  pub shows : Shows l image slot control
  pub kept : (lane : ℕ) → lane < l.lanes → (row_of control.rows lane).kept ≡ cut lane

-- the image stands for the heap of this cut, and names its sections
pub record StandsForCut (l : Layout) (s : Setting) (log : List (ℕ × Record)) (cut : ℕ → ℕ) (image : List ℕ) : Type 0 where
  pub heap : StandsFor l image (kept_heap l s log cut)
  pub sections : KeepsSections l cut image

-- the image stands for the heap of the one cut or of the other
abbrev pub StandsForEither : Layout → Setting → (log : List (ℕ × Record)) → (cut other : ℕ → ℕ) → List ℕ → Type 0
StandsForEither l s log cut other image = StandsForCut l s log cut image ⊎ StandsForCut l s log other image
