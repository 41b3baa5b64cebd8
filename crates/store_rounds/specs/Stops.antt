-- What can be read of a store for rounds between its calls, and what it leaves where it stops: each fact over a whole store, whatever past
-- it has (this project's own).
use Rattle.std.specs.Prelude.{ℕ, ◌≡◌, false, List, Result, IfOk}
use Rattle.heap_model.specs.declared.record.Record.{Record}
use Rattle.heap_model.specs.Log.{value}
use Rattle.heap_model.specs.Setting.{Setting}
use Rattle.block_disk.specs.Device.{Device}
use Rattle.block_disk.specs.Images.{Always}
use Rattle.durable.specs.Begin.{IsSettingOf}
use Rattle.image_parts.specs.declared.guard_row.GuardRow.{GuardRow}
use Rattle.image_parts.specs.declared.layout.Layout.{Layout}
use Rattle.undo_log.specs.Dropped.{undo_logs, records_in}
use Rattle.heap_model.specs.Past.{Past, applied, no_past}
use Rattle.store_helper_sections.specs.HelperSections.{HelperSection}
use Rattle.store_helper_sections.specs.Image.{IsRoundOf, ShowsCutOf, ShowsRound}
use Rattle.store_rounds.specs.Steps.{IsPastOf}
use Rattle.store_rounds.specs.Store.{Parts}

-- The image shows just this cut of this log.
pub record ShowsCut (l : Layout) (threads : ℕ) (s : Setting) (log : List (ℕ × Record)) (cut : ℕ → ℕ) (image : List ℕ) : Type 0 where
  pub sections : List HelperSection
  pub round : IsRoundOf l threads s log cut sections
  pub shows : ShowsRound l threads s log cut sections image

module _ {D : Type 0} (device : D → Device) where
  -- with what was recovered a store begins that was told nothing
  abbrev pub BeginsWith : {E : Type 0} → Layout → List GuardRow → (heap : List ℕ) → (last : ℕ) → Result (Parts D) E → Type 0
  BeginsWith l rows heap last answer = (s : Setting) → IsSettingOf l rows heap last s → IfOk answer (λ x. IsPastOf device x s no_past)

  -- the field has this value after all applied stores; a transient one, of which none is applied, its first one
  abbrev pub HasValue : Parts D → (field value : ℕ) → Type 0
  HasValue x f v = (s : Setting) (p : Past) → IsPastOf device x s p → v ≡ value s.first f (applied p)

  abbrev pub HasFirstValue : Parts D → (field value : ℕ) → Type 0
  HasFirstValue x f v = (s : Setting) (p : Past) → IsPastOf device x s p → s.is_logged f ≡ false → v ≡ s.first f

  -- so many sections of the lane are acknowledged, so many of its records were trimmed
  abbrev pub HasAcknowledged : Parts D → (lane sections : ℕ) → Type 0
  HasAcknowledged x l n = (s : Setting) (p : Past) → IsPastOf device x s p → n ≡ p.cut l

  abbrev pub HasTrimmed : Parts D → (lane records : ℕ) → Type 0
  HasTrimmed x l n = (s : Setting) (p : Past) → IsPastOf device x s p → n ≡ records_in (p.base l) (undo_logs p.logged l)

  -- until a call has failed, whatever a crash leaves shows just the acknowledged cut of what is logged
  abbrev pub RestsAcknowledged : Parts D → D → Type 0
  RestsAcknowledged x d = (s : Setting) (p : Past) → IsPastOf device x s p → x.known.has_failed ≡ false → Always (device d) (ShowsCut x.known.layout x.known.threads s p.logged p.cut)

  -- whatever a stop leaves shows the acknowledged cut of what was applied, or a later one
  abbrev pub ShowsAtStop : Parts D → D → Type 0
  ShowsAtStop x d = (s : Setting) (p : Past) → IsPastOf device x s p → Always (device d) (ShowsCutOf x.known.layout x.known.threads s (applied p) p.cut)
