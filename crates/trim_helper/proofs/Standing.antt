-- What an image that shows a cut stands for.
use Rattle.std.proofs.Common.{ℕ, List}
use Rattle.heap_model.specs.declared.record.Record.{Record}
use Rattle.heap_model.specs.Setting.{Setting}
use Rattle.image_parts.specs.declared.layout.Layout.{Layout}
use Rattle.store_helper_sections.specs.Going.{from_heap}
use Rattle.store_helper_sections.specs.Image.{kept_by, round_records}
use Rattle.store_helper_sections.proofs.Preceding.{precede}
use Rattle.store_helper_sections.proofs.Standing.{stands_shown}
use Rattle.store_image.specs.KeptHeap.{StandsForCut, kept_heap}
use Rattle.store_image.proofs.Stands.{kept_at, kept_size}
use Rattle.store_rounds.specs.Stops.{ShowsCut}

-- an image that shows a cut stands for the heap that the cut keeps, and names its sections
pub cut_stands : (l : Layout) (threads : ℕ) (s : Setting) (log : List (ℕ × Record)) (cut : ℕ → ℕ) (image : List ℕ) → ShowsCut l threads s log cut image → StandsForCut l s log cut image
cut_stands l threads s log cut image shown =
    let is = shown.round in
    let heap = shown.shows.heap in
    record {
      heap = stands_shown l (from_heap s (kept_by s log cut)) (round_records threads s log cut shown.sections) image (precede s log cut threads shown.sections is.legal is.whole is.closed is.lanes is.preceding) heap
          (kept_heap l s log cut) (kept_size l s log cut) (kept_at l s log cut);
      sections = record { slot = heap.slot; control = heap.control; shows = heap.shows; kept = shown.shows.kept };
    }
