-- What a crash leaves of rounds of two syncs shows a cut of a beginning of the log (this project's own).
use Rattle.std.specs.Prelude.{ℕ, ◌≤◌, List, ◌++◌}
use Rattle.heap_model.specs.declared.cut.Cut.{Cut}
use Rattle.heap_model.specs.declared.record.Record.{Record}
use Rattle.heap_model.specs.declared.record.UndoRecord.{UndoRecord}
use Rattle.heap_model.specs.Setting.{Setting}
use Rattle.block_disk.specs.Device.{Device}
use Rattle.block_disk.specs.Images.{Always, LeavesOnly}
use Rattle.image_parts.specs.declared.layout.Layout.{Layout}
use Rattle.store_image.specs.declared.committed.Committed.{Committed}
use Rattle.store_helper_sections.specs.HelperSections.{HelperSection}
use Rattle.store_helper_sections.specs.Image.{ShowsCutOf}
use Rattle.store_round_image.specs.declared.cells.HomeValue.{HomeValue}
use Rattle.store_round_making.specs.Promises.{MakeKeeps, MakeShows}
use Rattle.store_round_making.specs.Rounds.{IsRoundOn, MayMake}

-- Between rounds it shows the acknowledged cut of the log.
abbrev pub ShownBetweenLaw : Type 0
ShownBetweenLaw = (l : Layout) (t : ℕ) (s : Setting) (log : List (ℕ × Record)) (cut : ℕ → ℕ) (sections : List HelperSection) (c : Committed) (d : Device) →
    IsRoundOn l t s log cut sections c d → Always d (ShowsCutOf l t s log cut)

-- At each moment of a round it shows the cut that was acknowledged before, or a later one.
abbrev pub ShownMomentLaw : Type 0
ShownMomentLaw = (l : Layout) (t : ℕ) (s : Setting) (log : List (ℕ × Record)) (cut : ℕ → ℕ) (sections : List HelperSection) (newer : List (ℕ × Record)) (later : List HelperSection)
    (c : Committed) (d : Device) (next : Cut) (places : List ℕ) (cells : List HomeValue) (fresh : ℕ → List UndoRecord) (helper : List UndoRecord) (new : Device) →
    MayMake l t s log cut sections newer later c d next places cells fresh helper → MakeShows l t next places cells fresh helper c d new →
    LeavesOnly d new (ShowsCutOf l t s (newer ++ log) cut)

-- So it does after a round, however that ended.
abbrev pub ShownAfterLaw : Type 0
ShownAfterLaw = (l : Layout) (t : ℕ) (s : Setting) (log : List (ℕ × Record)) (cut : ℕ → ℕ) (sections : List HelperSection) (newer : List (ℕ × Record)) (later : List HelperSection)
    (c : Committed) (d : Device) (next : Cut) (places : List ℕ) (cells : List HomeValue) (fresh : ℕ → List UndoRecord) (helper : List UndoRecord) (new : Device) →
    MayMake l t s log cut sections newer later c d next places cells fresh helper → MakeKeeps l t next places cells fresh helper c d new →
    Always new (ShowsCutOf l t s (newer ++ log) cut)

-- What shows a cut of a log shows it of a longer log, and each earlier cut.
abbrev pub ShownOnLaw : Type 0
ShownOnLaw = (l : Layout) (t : ℕ) (s : Setting) (log newer : List (ℕ × Record)) (cut earlier : ℕ → ℕ) (image : List ℕ) → ((lane : ℕ) → earlier lane ≤ cut lane) →
    ShowsCutOf l t s log cut image → ShowsCutOf l t s (newer ++ log) earlier image
