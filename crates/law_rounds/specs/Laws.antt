-- What recovery gives of an image whose live records go on from a heap, and so of one over a round of two syncs.
use Rattle.std.specs.Prelude.{ℕ, ◌≡◌, ◌⊎◌, ◌<◌, false, List, [], ◌++◌}
use Rattle.heap_model.specs.declared.cut.Cut.{Cut}
use Rattle.heap_model.specs.declared.record.Record.{Record}
use Rattle.heap_model.specs.declared.record.UndoRecord.{UndoRecord}
use Rattle.heap_model.specs.Cuts.{counts_of}
use Rattle.heap_model.specs.Setting.{Setting}
use Rattle.image_parts.specs.declared.layout.Layout.{Layout}
use Rattle.undo_log.specs.StandsFor.{row_of}
use Rattle.store_image.specs.KeptHeap.{values_below}
use Rattle.heap_model.specs.Past.{Past}
use Rattle.store_round_image.specs.declared.cells.HomeValue.{HomeValue}
use Rattle.store_round_making.specs.Promises.{MakeShows}
use Rattle.store_round_making.specs.Rounds.{IsRoundOn, MayMake}
use Rattle.store_image.specs.declared.committed.Committed.{Committed}
use Rattle.law_survival.specs.Again.{IsKept}
use Rattle.law_survival.specs.Taken.{IsTaken}
use Rattle.block_disk.specs.Device.{Device}
use Rattle.block_disk.specs.Images.{Always, LeavesOnly}
use Rattle.store_helper_sections.specs.Going.{GoesOn}
use Rattle.store_helper_sections.specs.HelperSections.{HelperSection}
use Rattle.store_helper_sections.specs.Image.{IsRoundOf, ShowsHeap, ShowsRound, kept_by}

-- Recovery accepts the image, and gives this heap. It reports as kept, by lane, so many sections.
pub record Gives (l : Layout) (heap : ℕ → ℕ) (kept : ℕ → ℕ) (image : List ℕ) : Type 0 where
  pub accepted : IsTaken image
  pub heap_is : accepted.study.heap.items ≡ values_below heap l.fields
  pub kept_are : (lane : ℕ) → lane < l.lanes → counts_of accepted.study.report.kept lane ≡ kept lane

-- Of an image that shows a heap, with live records that go on from it, recovery gives that heap.
abbrev pub HeapLaw : Type 0
HeapLaw = (l : Layout) (s : Setting) (records : List (ℕ × Record)) (image : List ℕ) → GoesOn s records → (shown : ShowsHeap l s records image) →
    Gives l s.first (λ lane. (row_of shown.control.rows lane).kept) image

-- Of an image over a round of two syncs recovery gives the heap that the cut keeps, and reports its sections.
abbrev pub RoundLaw : Type 0
RoundLaw = (l : Layout) (t : ℕ) (s : Setting) (log : List (ℕ × Record)) (cut : ℕ → ℕ) (sections : List HelperSection) (image : List ℕ) → IsRoundOf l t s log cut sections → ShowsRound l t s log cut sections image →
    Gives l (kept_by s log cut) cut image

-- a past with this log, of which the cut is acknowledged and trimmed
abbrev pub round_past : (log : List (ℕ × Record)) → (cut : ℕ → ℕ) → Past
round_past log cut = record { fresh = []; logged = log; base = cut; cut = cut; is_dirty = λ f. false }

-- the image is one of those that recovery may be run on again and again, with this cut's heap (`again_law` of `law_survival`)
abbrev pub IsKeptRound : Layout → Setting → (log : List (ℕ × Record)) → (cut : ℕ → ℕ) → (image : List ℕ) → Type 0
IsKeptRound l s log cut image = IsKept l s (round_past log cut) image

-- Recovery of an image over a round of two syncs may be cut off, and run again, any number of times.
abbrev pub RoundAgainLaw : Type 0
RoundAgainLaw = (l : Layout) (t : ℕ) (s : Setting) (log : List (ℕ × Record)) (cut : ℕ → ℕ) (sections : List HelperSection) (image : List ℕ) → IsRoundOf l t s log cut sections → ShowsRound l t s log cut sections image →
    IsKeptRound l s log cut image

-- Recovery of an image gives the heap that the cut of the log keeps, and reports its sections.
abbrev pub GivesCut : Layout → Setting → (log : List (ℕ × Record)) → (cut : ℕ → ℕ) → List ℕ → Type 0
GivesCut l s log cut image = Gives l (kept_by s log cut) cut image

-- Whatever a crash leaves between rounds, recovery gives the acknowledged cut.
abbrev pub BetweenLaw : Type 0
BetweenLaw = (l : Layout) (t : ℕ) (s : Setting) (log : List (ℕ × Record)) (cut : ℕ → ℕ) (sections : List HelperSection) (c : Committed) (d : Device) → IsRoundOn l t s log cut sections c d → Always d (GivesCut l s log cut)

-- Whatever a crash leaves at any moment of a round, recovery gives the cut that was acknowledged before or the new one.
abbrev pub MomentLaw : Type 0
MomentLaw = (l : Layout) (t : ℕ) (s : Setting) (log : List (ℕ × Record)) (cut : ℕ → ℕ) (sections : List HelperSection) (newer : List (ℕ × Record)) (later : List HelperSection)
    (c : Committed) (d : Device) (next : Cut) (places : List ℕ) (cells : List HomeValue) (fresh : ℕ → List UndoRecord) (helper : List UndoRecord) (new : Device) →
    MayMake l t s log cut sections newer later c d next places cells fresh helper → MakeShows l t next places cells fresh helper c d new →
    LeavesOnly d new (λ image. GivesCut l s log cut image ⊎ GivesCut l s (newer ++ log) (counts_of next) image)
