-- The numbers of a study: those of an image's study are within the image's limits, and its sections' below 2^64.
use Rattle.std.specs.Prelude.{ℕ, ◌+◌, ◌<◌, ◌≤◌, ◌^◌, List, length}
use Rattle.image_parts.specs.Layout.{IsLayout}
use Rattle.undo_log.specs.StandsFor.{row_of}
use Rattle.recover_heap.specs.Logs.{records_of}
use Rattle.recover.specs.Study.{IsStudyOf}
use Rattle.recover.specs.declared.studied.Study.{Study}

-- at most 32 lanes, and in each no more sections are kept, and no more records live, than the next section's number allows
pub record FitsNumbers (s : Study) : Type 0 where
  pub lanes : s.layout.lanes ≤ 32
  pub sections : (l : ℕ) → l < s.layout.lanes → (row_of s.control.rows l).kept + length (records_of s.records.items l) + 1 < 2 ^ 64

-- The layout of a study of an image is within the limits.
abbrev pub StudyLimitsLaw : Type 0
StudyLimitsLaw = (image : List ℕ) (s : Study) → IsStudyOf image s → IsLayout s.layout

-- The numbers of its sections fit.
abbrev pub StudyNumbersLaw : Type 0
StudyNumbersLaw = (image : List ℕ) (s : Study) → IsStudyOf image s → FitsNumbers s
