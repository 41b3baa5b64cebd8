-- What a crash leaves of calls that were made one after another, and that applied a legal history's logs (this project's own).
use Rattle.std.specs.Prelude.{ℕ, ◌≡◌, ◌+◌, ◌-◌, ◌^◌, ◌<◌, ◌≤◌, Bool, false, List}
use Rattle.heap_model.specs.declared.event.Event.{Event}
use Rattle.heap_model.specs.Cuts.{counts_of}
use Rattle.heap_model.specs.History.{IsLegalHistory, log_of}
use Rattle.heap_model.specs.Log.{IsLaneWisePrefix}
use Rattle.heap_model.specs.Setting.{Setting}
use Rattle.block_disk.specs.Device.{Device}
use Rattle.image_parts.specs.Header.{HasHeader}
use Rattle.image_parts.specs.declared.layout.Layout.{Layout}
use Rattle.durable.specs.Runs.{HasRun, TakesSequences}
use Rattle.durable.specs.Store.{Known, HasPast}
use Rattle.heap_model.specs.Past.{Past, applied}
use Rattle.recover.specs.Recovery.{IsWorn}
use Rattle.law_survival.specs.History.{KeepsHistory}
use Rattle.law_survival.specs.Taken.{IsTaken}
use Rattle.law_survival.specs.WholeRun.{MayBeLeft}

-- Recovery accepts the image, and keeps one set of sections. It includes every section that was acknowledged in this past. In each of these
-- histories they are whole sections, each with every section that it depends on, and the heap has what they stored, in the history's order.
pub record KeepsIn (histories : List (ℕ × Event) → Type 0) (l : Layout) (s : Setting) (p : Past) (image : List ℕ) : Type 0 where
  -- Recovery accepts the image.
  pub accepted : IsTaken image
  pub cut : ℕ → ℕ
  -- What is kept includes every section that was acknowledged in the past.
  pub stays : (lane : ℕ) → p.cut lane ≤ cut lane
  pub kept_are : (lane : ℕ) → lane < l.lanes → counts_of accepted.study.report.kept lane ≡ cut lane
  -- In each of these histories what is kept are whole sections, each with all that it depends on, and the heap is that
  -- of their stores, in the history's order.
  pub keeps : (history : List (ℕ × Event)) → histories history → KeepsHistory l s history cut accepted.study.heap.items

-- So it does in this one history.
abbrev pub KeepsOfHistory : Layout → Setting → Past → (history : List (ℕ × Event)) → (image : List ℕ) → Type 0
KeepsOfHistory l s p history image = KeepsIn (λ other. other ≡ history) l s p image

-- A store of this past had the old device. The calls that it has made since left the new device; a fault may have cut the last one off.
pub record RunsSince (l : Layout) (s : Setting) (p : Past) (old new : Device) : Type 0 where
  pub store : Known
  pub layout : store.layout ≡ l
  pub has : HasPast store s p old
  pub now : Past
  pub has_failed : Bool
  pub ran : HasRun l s p old now new has_failed

-- Whatever a crash left at any moment of such a run, recovery keeps so in each legal history of which it applied, lane by lane, a beginning.
abbrev pub RunLaw : Type 0
RunLaw = (l : Layout) (s : Setting) (p : Past) (old new : Device) (history : List (ℕ × Event)) (image : List ℕ)
    → (run : RunsSince l s p old new) → IsLegalHistory s history → IsLaneWisePrefix (applied run.now) (log_of s history)
    → MayBeLeft old new image → KeepsOfHistory l s p history image

-- Of the control's sequences some calls take so many at most, and those behind them so many: both together take the sum.
abbrev pub TakesOnLaw : Type 0
TakesOnLaw = (m n : ℕ) (a b c : Known) (d e f : Device) → b.layout ≡ a.layout → TakesSequences m a d b e → TakesSequences n b e c f → TakesSequences (m + n) a d c f

-- So a crash leaves no image that recovery refuses as worn, unless the control began within so many of its last sequence.
abbrev pub UnwornLaw : Type 0
UnwornLaw = (s : Setting) (p : Past) (most : ℕ) (old new : Known) (before now : Device) (image : List ℕ) → HasPast old s p before → old.has_failed ≡ false → TakesSequences most old before new now →
    MayBeLeft before now image → HasHeader image old.layout → IsWorn image → 2 ^ 64 - 1 ≤ old.committed.sequence + most
