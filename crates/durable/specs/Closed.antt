-- The heap that the device of a closed store holds (this project's own).
use Rattle.std.specs.Prelude.{ℕ, List}
use Rattle.heap_model.specs.Setting.{Setting}
use Rattle.heap_model.specs.Log.{value}
use Rattle.image_parts.specs.declared.layout.Layout.{Layout}
use Rattle.heap_model.specs.Past.{Past, applied}
use Rattle.store_image.specs.KeptHeap.{values_below}

-- the values after all that was applied, by field
abbrev pub applied_heap : Layout → Setting → Past → List ℕ
applied_heap l s p = values_below (λ f. value s.first f (applied p)) l.fields
