-- The laws of the helper's sections, and of images that show them.
use Rattle.std.specs.Prelude.{ℕ, ◌≡◌, ◌<◌, List, ◌++◌, length, slice_index}
use Rattle.heap_model.specs.declared.record.Record.{Record}
use Rattle.heap_model.specs.Base.{records_since}
use Rattle.heap_model.specs.Cuts.{IsClosed, IsWhole}
use Rattle.heap_model.specs.Log.{IsLegal, IsOfLanes}
use Rattle.heap_model.specs.Sections.{actions}
use Rattle.heap_model.specs.Setting.{Setting}
use Rattle.image_parts.specs.declared.layout.Layout.{Layout}
use Rattle.undo_log.specs.StandsFor.{StandsFor}
use Rattle.store_helper_sections.specs.Going.{GoesOn, from_heap}
use Rattle.store_helper_sections.specs.HelperSections.{ArePreceding, HelperSection, helper_log}
use Rattle.store_helper_sections.specs.Image.{ShowsHeap, kept_by}

-- Sections of the helper's, each just before the first that takes its guard, and then the records that a cut doesn't keep, go on from the
-- heap that the cut keeps.
abbrev pub HelperLaw : Type 0
HelperLaw = (s : Setting) (log : List (ℕ × Record)) (cut : ℕ → ℕ) (lane : ℕ) (sections : List HelperSection) →
    IsLegal s log → IsWhole (actions log) cut → IsClosed (actions log) cut → IsOfLanes lane log → ArePreceding s (records_since cut log) sections →
    GoesOn (from_heap s (kept_by s log cut)) (records_since cut log ++ helper_log lane (kept_by s log cut) sections)

-- An image that shows a heap with records that go on from it stands for that heap, whatever the cells hold of fields that these store to.
abbrev pub ShownHeapLaw : Type 0
ShownHeapLaw = (l : Layout) (s : Setting) (records : List (ℕ × Record)) (image values : List ℕ) →
    GoesOn s records → ShowsHeap l s records image → length values ≡ l.fields → ((f : ℕ) → f < l.fields → slice_index values f ≡ s.first f) → StandsFor l image values
