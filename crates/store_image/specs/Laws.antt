-- What is known of a store and its device between the steps: laws, each the contract of a public function.
use Rattle.std.specs.Prelude.{ℕ, ◌≡◌, ◌<◌, ◌≤◌, List, [], length, slice_index}
use Rattle.heap_model.specs.declared.record.Record.{Record}
use Rattle.heap_model.specs.Setting.{Setting}
use Rattle.heap_model.specs.KeptHeap.{kept_value}
use Rattle.block_disk.specs.Device.{Device}
use Rattle.block_disk.specs.Images.{Always}
use Rattle.image_parts.specs.declared.layout.Layout.{Layout}
use Rattle.undo_log.specs.Dropped.{undo_logs}
use Rattle.heap_model.specs.Past.{Past, IsPast}
use Rattle.store_image.specs.Consistent.{ShowsPast, IsConsistent}
use Rattle.store_image.specs.KeptHeap.{kept_heap, StandsForCut}
use Rattle.store_image.specs.declared.committed.Committed.{Committed}

-- Whatever a crash leaves now of a store's device stands for the heap of the acknowledged cut.
abbrev pub ConsistentStands : Type 0
ConsistentStands = (l : Layout) (s : Setting) (p : Past) (c : Committed) (d : Device) → IsConsistent l s p c d → Always d (StandsForCut l s p.logged p.cut)

-- So does each image that shows a past.
abbrev pub ShownStands : Type 0
ShownStands = (l : Layout) (s : Setting) (p : Past) (image : List ℕ) → IsPast s p → ((lane : ℕ) → l.lanes ≤ lane → undo_logs p.logged lane ≡ []) → ShowsPast l s p image → StandsForCut l s p.logged p.cut image

-- That heap has a value for each field, the kept one.
abbrev pub KeptHeapReads : Type 0
KeptHeapReads = (l : Layout) (s : Setting) (log : List (ℕ × Record)) (cut : ℕ → ℕ) →
    (length (kept_heap l s log cut) ≡ l.fields) × ((f : ℕ) → f < l.fields → slice_index (kept_heap l s log cut) f ≡ kept_value s.first cut f log)
