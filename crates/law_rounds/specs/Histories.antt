-- What recovery gives of images that show a cut of what threads have logged, in the words of the threads' history.
use Rattle.std.specs.Prelude.{ℕ, List}
use Rattle.heap_model.specs.declared.event.Event.{Event}
use Rattle.heap_model.specs.declared.record.Record.{Record}
use Rattle.heap_model.specs.History.{IsLegalHistory, log_of}
use Rattle.heap_model.specs.Log.{IsLaneWisePrefix}
use Rattle.heap_model.specs.Setting.{Setting}
use Rattle.image_parts.specs.declared.layout.Layout.{Layout}
use Rattle.store_helper_sections.specs.Image.{ShowsCutOf}
use Rattle.heap_model.specs.Past.{Past}
use Rattle.law_survival.specs.Running.{KeepsIn, KeepsOfHistory}
use Rattle.law_rounds.specs.Laws.{IsKeptRound}

-- a legal history of which this log has, lane by lane, a beginning
pub record HasLogged (s : Setting) (log : List (ℕ × Record)) (history : List (ℕ × Event)) : Type 0 where
  pub legal : IsLegalHistory s history
  pub first : IsLaneWisePrefix log (log_of s history)

-- Of an image that shows a cut of a log, recovery keeps one set of sections. It includes every section that the past has acknowledged, and in
-- each legal history that has logged this they are whole ones, each with all that it depends on.
abbrev pub RoundRunsLaw : Type 0
RoundRunsLaw = (l : Layout) (t : ℕ) (s : Setting) (p : Past) (log : List (ℕ × Record)) (image : List ℕ) → ShowsCutOf l t s log p.cut image → KeepsIn (HasLogged s log) l s p image

-- So it does in one such history.
abbrev pub RoundRunLaw : Type 0
RoundRunLaw = (l : Layout) (t : ℕ) (s : Setting) (p : Past) (log : List (ℕ × Record)) (history : List (ℕ × Event)) (image : List ℕ) →
    IsLegalHistory s history → IsLaneWisePrefix log (log_of s history) → ShowsCutOf l t s log p.cut image → KeepsOfHistory l s p history image

-- Recovery of such an image may be cut off, and run again, any number of times.
abbrev pub ShownAgainLaw : Type 0
ShownAgainLaw = (l : Layout) (t : ℕ) (s : Setting) (log : List (ℕ × Record)) (cut : ℕ → ℕ) (image : List ℕ) → (shows : ShowsCutOf l t s log cut image) → IsKeptRound l s shows.shown shows.kept image
