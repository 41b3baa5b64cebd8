-- What can be read of a store between its calls, and what it leaves where it is closed or stops: each fact over a whole store,
-- whatever past it has (this project's own).
use Rattle.std.specs.Prelude.{ℕ, ◌≡◌, ◌<◌, true, false, List, Result, IfErr, IfOk, OnOk, MatchResult}
use Rattle.heap_model.specs.Setting.{Setting}
use Rattle.heap_model.specs.Log.{value}
use Rattle.block_disk.specs.Device.{Device}
use Rattle.block_disk.specs.Images.{Always}
use Rattle.image_parts.specs.Cells.{HasCell}
use Rattle.image_parts.specs.declared.guard_row.GuardRow.{GuardRow}
use Rattle.image_parts.specs.declared.layout.Layout.{Layout}
use Rattle.undo_log.specs.Dropped.{undo_logs, records_in}
use Rattle.undo_log.specs.StandsFor.{StandsFor}
use Rattle.durable.specs.Begin.{IsSettingOf}
use Rattle.durable.specs.Calls.{HasOpen, IsWritten, RefusesClose}
use Rattle.durable.specs.Closed.{applied_heap}
use Rattle.durable.specs.Steps.{IsPastOf}
use Rattle.durable.specs.Store.{Parts, ShowsStep, StandsForStep}
use Rattle.store_image.specs.KeptHeap.{StandsForCut}
use Rattle.heap_model.specs.Past.{Past, applied, no_past}
use Rattle.heap_model.specs.declared.store_error.StoreError.{StoreError}

module _ {D : Type 0} (device : D → Device) where
  -- with what was recovered a store begins that was told nothing
  abbrev pub BeginsWith : {E : Type 0} → Layout → List GuardRow → (heap : List ℕ) → (last : ℕ) → Result (Parts D) E → Type 0
  BeginsWith l rows heap last answer = (s : Setting) → IsSettingOf l rows heap last s → IfOk answer (λ x. IsPastOf device x s no_past)

  -- the field has this value after all applied stores; a transient one, of which none is applied, its first one
  abbrev pub HasValue : Parts D → (field value : ℕ) → Type 0
  HasValue x f v = (s : Setting) (p : Past) → IsPastOf device x s p → v ≡ value s.first f (applied p)

  abbrev pub HasFirstValue : Parts D → (field value : ℕ) → Type 0
  HasFirstValue x f v = (s : Setting) (p : Past) → IsPastOf device x s p → s.is_logged f ≡ false → v ≡ s.first f

  -- so many sections of the lane are acknowledged, so many of its records were trimmed
  abbrev pub HasAcknowledged : Parts D → (lane sections : ℕ) → Type 0
  HasAcknowledged x l n = (s : Setting) (p : Past) → IsPastOf device x s p → n ≡ p.cut l

  abbrev pub HasTrimmed : Parts D → (lane records : ℕ) → Type 0
  HasTrimmed x l n = (s : Setting) (p : Past) → IsPastOf device x s p → n ≡ records_in (p.base l) (undo_logs p.logged l)

  -- until a call has failed, the device and whatever a crash leaves of it stand for the acknowledged sections
  abbrev pub ReadsAcknowledged : Parts D → D → Type 0
  ReadsAcknowledged x d = (s : Setting) (p : Past) → IsPastOf device x s p → x.known.has_failed ≡ false → StandsForCut x.known.layout s p.logged p.cut (device d).now.bytes

  abbrev pub RestsAcknowledged : Parts D → D → Type 0
  RestsAcknowledged x d = (s : Setting) (p : Past) → IsPastOf device x s p → x.known.has_failed ≡ false → Always (device d) (StandsForCut x.known.layout s p.logged p.cut)

  -- whatever a stop leaves shows the past, or what the call in doubt makes of it, and stands for the heap acknowledged then
  abbrev pub ShowsAtStop : Parts D → D → Type 0
  ShowsAtStop x d = (s : Setting) (p : Past) → IsPastOf device x s p → Always (device d) (ShowsStep x.known.layout s p x.known.doubt)

  abbrev pub StandsAtStop : Parts D → D → Type 0
  StandsAtStop x d = (s : Setting) (p : Past) → IsPastOf device x s p → Always (device d) (StandsForStep x.known.layout s p x.known.doubt)

  -- nothing is left to do, or why the store isn't closed
  abbrev pub AnswersClose : Parts D → Result (Unit {0}) StoreError → Type 0
  AnswersClose x answer = (s : Setting) (p : Past) → IsPastOf device x s p →
      MatchResult answer (λ done. (x.known.has_failed ≡ false) × (¬ HasOpen p) × IsWritten s p) (RefusesClose x.known s p)

  abbrev pub ClosesWritten : {A E : Type 0} → Parts D → Result A E → Type 0
  ClosesWritten x answer = (s : Setting) (p : Past) → IsPastOf device x s p → OnOk answer ((x.known.has_failed ≡ false) × (¬ HasOpen p) × IsWritten s p)

  abbrev pub RefusesToClose : {A : Type 0} → Parts D → Result A (Parts D × StoreError) → Type 0
  RefusesToClose x answer = (s : Setting) (p : Past) → IsPastOf device x s p → IfErr answer (λ back. RefusesClose x.known s p back.1)

  -- the home cells of the fields that aren't transient have their values after all that was applied
  abbrev pub ClosesAtHome : {E : Type 0} → Parts D → Result D E → Type 0
  ClosesAtHome x answer = (s : Setting) (p : Past) → IsPastOf device x s p →
      IfOk answer (λ disk. (f : ℕ) → f < x.known.layout.fields → s.is_logged f ≡ true → HasCell x.known.layout f (device disk).now.bytes (value s.first f (applied p)))

  -- whatever a crash leaves then stands for the heap after all that was applied
  abbrev pub ClosesForGood : {E : Type 0} → Parts D → Result D E → Type 0
  ClosesForGood x answer = (s : Setting) (p : Past) → IsPastOf device x s p →
      IfOk answer (λ disk. Always (device disk) (λ image. StandsFor x.known.layout image (applied_heap x.known.layout s p)))
