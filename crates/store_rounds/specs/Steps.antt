-- What each call of the store promises: one record a call, over the whole store before it (x) and after it (y). Each part holds whatever
-- past the store has. A new image is one that a crash during the call may leave, and that a crash before it couldn't have left (this
-- project's own).
use Rattle.std.specs.Prelude.{ℕ, ◌≡◌, ◌≢◌, ◌-◌, ◌+◌, ◌≤◌, ◌<◌, ◌^◌, ◌⊎◌, true, false, [], Result, Ok, Err, IfErr, OnErr, OnOk, MatchResult}
use Rattle.heap_model.specs.declared.record.Record.{Record}
use Rattle.heap_model.specs.Base.{records_since}
use Rattle.heap_model.specs.Cuts.{IsStable}
use Rattle.heap_model.specs.Sections.{actions}
use Rattle.heap_model.specs.Setting.{Setting}
use Rattle.block_disk.specs.Device.{Device, HasCause}
use Rattle.block_disk.specs.Images.{ImageBut, LeavesOnly}
use Rattle.image_parts.specs.Cells.{HasCell}
use Rattle.store_image.specs.Sequences.{ShowsUpTo}
use Rattle.store_image.specs.Steps.{step_ranges}
use Rattle.store_memory.specs.Apply.{Answers}
use Rattle.heap_model.specs.Past.{Past, after_apply, after_log, after_settle, after_trim, applied, has_store}
use Rattle.heap_model.specs.declared.store_error.StoreError.{StoreError}
use Rattle.heap_model.specs.declared.store_error.StoreError.TheVariants.{Failed, Worn, Fault}
use Rattle.store_helper_sections.specs.Image.{ShowsCutOf, kept_by}
use Rattle.store_rounds.specs.Store.{HasPast, Known, Parts}

-- A record that may be refused for a failed device: it is, or it isn't and the rest holds.
abbrev pub RefusesApply : Known → Setting → Past → (lane : ℕ) → Record → StoreError → Type 0
RefusesApply x s p l r Failed = x.has_failed ≡ true
RefusesApply x s p l r e = (x.has_failed ≡ false) × Answers s x.memory p l r (Err e)

-- Why a call that writes is refused, and whether the store runs on: the device had failed before; the control's sequence is at its last
-- value, and the store runs on; or a call of the device failed now.
abbrev pub RefusesWrite : (old new : Known) → StoreError → Type 0
RefusesWrite old new Failed = (old.has_failed ≡ true) × (new ≡ old)
RefusesWrite old new Worn = (old.has_failed ≡ false) × (new.has_failed ≡ false) × (new.committed.sequence ≡ 2 ^ 64 - 1)
RefusesWrite old new Fault = (old.has_failed ≡ false) × (new.has_failed ≡ true)
RefusesWrite old new _ = ⊥

-- the past after a round that acknowledges this cut
abbrev pub after_round : Past → (cut : ℕ → ℕ) → Past
after_round p cut = after_trim (after_settle (after_log p) cut)

module _ {D : Type 0} (device : D → Device) where
  -- the store has this past
  abbrev pub IsPastOf : Parts D → Setting → Past → Type 0
  IsPastOf x s p = HasPast x.known s p (device x.disk)

-- `apply`: the store is told the lane's next record.
pub record Applies {D : Type 0} (device : D → Device) (x y : Parts D) (lane : ℕ) (next : Record) (result : Result (Unit {0}) StoreError) : Type 0 where
  -- A record that is taken may come next in its lane; each refusal has its own reason, in the order of the call's doc.
  pub answer : (s : Setting) (p : Past) → IsPastOf device x s p
      → MatchResult result (λ done. Answers s x.known.memory p lane next (Ok done)) (RefusesApply x.known s p lane next)
  -- After a success, the record is the newest that was applied.
  pub ok : (s : Setting) (p : Past) → IsPastOf device x s p → OnOk result (IsPastOf device y s (after_apply p lane next))
  -- A call succeeds only on a store that hasn't failed, and leaves it so.
  pub running : OnOk result ((x.known.has_failed ≡ false) × (y.known.has_failed ≡ false))
  -- The call never answers `Fault`.
  pub no_fault : IfErr result (λ e. e ≢ Fault)
  -- A refusal changes nothing.
  pub err : OnErr result (y ≡ x)
  -- The call doesn't touch the device.
  pub disk : y.disk ≡ x.disk
  -- The control's sequence stays.
  pub sequence : y.known.committed.sequence ≡ x.known.committed.sequence
  -- The layout of the image stays, and which lanes are the threads'.
  pub layout : y.known.layout ≡ x.known.layout
  pub threads : y.known.threads ≡ x.known.threads

-- What the calls that write have in common; `last` is the highest sequence that the call may give the control.
pub record Writes {D : Type 0} (device : D → Device) (last : ℕ) (x y : Parts D) (result : Result (Unit {0}) StoreError) : Type 0 where
  -- A call succeeds only on a store that hasn't failed, and leaves it so.
  pub running : OnOk result ((x.known.has_failed ≡ false) × (y.known.has_failed ≡ false))
  -- Each refusal has its own reason.
  pub refused : IfErr result (RefusesWrite x.known y.known)
  -- A store that had failed stays as it is, and so does its device.
  pub still : x.known.has_failed ≡ true → (result ≡ Err Failed) × (y ≡ x)
  -- Each new image shows the acknowledged cut of what was applied, or a later one.
  pub shown : (s : Setting) (p : Past) → IsPastOf device x s p
      → LeavesOnly (device x.disk) (device y.disk) (ShowsCutOf x.known.layout x.known.threads s (applied p) p.cut)
  -- The call answers `Fault` only if a call of the device has failed since it began.
  pub cause : HasCause (device x.disk).failures (device y.disk).failures Fault result
  -- The control's sequence stays at or below the highest that the call may give it.
  pub sequence : y.known.committed.sequence ≤ last
  -- Each new image shows a control of at most that sequence.
  pub any_sequence : LeavesOnly (device x.disk) (device y.disk) (ShowsUpTo x.known.layout last)
  -- The call writes only the slots of the control, home cells and the lanes' areas.
  pub within : LeavesOnly (device x.disk) (device y.disk) (ImageBut (device x.disk) (step_ranges x.known.layout))
  -- The layout of the image stays, and which lanes are the threads'.
  pub layout : y.known.layout ≡ x.known.layout
  pub threads : y.known.threads ≡ x.known.threads

-- `round`: what was applied is made durable, and its stable cut is acknowledged and forgotten.
pub record MakesRound {D : Type 0} (device : D → Device) (x y : Parts D) (result : Result (Unit {0}) StoreError) : Type 0 where
  -- It commits a control twice at most.
  pub writes : Writes device (x.known.committed.sequence + 2) x y result
  -- After a success, the stable cut of all that was applied is acknowledged and forgotten.
  pub ok : (s : Setting) (p : Past) (cut : ℕ → ℕ) → IsPastOf device x s p → IsStable (actions (applied p)) cut → OnOk result (IsPastOf device y s (after_round p cut))
  -- After a refusal, the store has the past that it had, or all that was applied is logged, and what was acknowledged still is.
  pub kept : (s : Setting) (p : Past) → IsPastOf device x s p → OnErr result (IsPastOf device y s p ⊎ IsPastOf device y s (after_log p))
  -- If all that was applied is logged, and its stable cut is acknowledged, a running store answers Ok, and nothing changes.
  pub quiet : (s : Setting) (p : Past) → IsPastOf device x s p → x.known.has_failed ≡ false → p.fresh ≡ [] → IsStable (actions (applied p)) p.cut → (result ≡ Ok tt) × (y ≡ x)

-- `flush`: what was applied is logged, and the cells get what is kept.
pub record Flushes {D : Type 0} (device : D → Device) (x y : Parts D) (result : Result (Unit {0}) StoreError) : Type 0 where
  -- It commits a control once at most.
  pub writes : Writes device (x.known.committed.sequence + 1) x y result
  -- After a success, all that was applied is logged.
  pub ok : (s : Setting) (p : Past) → IsPastOf device x s p → OnOk result (IsPastOf device y s (after_log p))
  -- After a success, no cell waits for what is kept.
  pub home : OnOk result (y.known.pending ≡ [])
  -- After a refusal, the store has the past that it had.
  pub kept : (s : Setting) (p : Past) → IsPastOf device x s p → OnErr result (IsPastOf device y s p)
  -- If all is logged and no cell waits, a running store answers Ok, and nothing changes.
  pub quiet : (s : Setting) (p : Past) → IsPastOf device x s p → x.known.has_failed ≡ false → p.fresh ≡ [] → x.known.pending ≡ [] → (result ≡ Ok tt) × (y ≡ x)

-- Where a running store has no cell that waits, each persistent field's cell has what is kept, or a record beyond the acknowledged cut
-- stores to the field.
abbrev pub IsHome : {D : Type 0} → (device : D → Device) → Parts D → Type 0
IsHome device x = (s : Setting) (p : Past) → IsPastOf device x s p → x.known.has_failed ≡ false → x.known.pending ≡ [] → (f : ℕ) → f < x.known.layout.fields → s.is_logged f ≡ true →
    (has_store f (records_since p.cut p.logged) ≡ true) ⊎ HasCell x.known.layout f (device x.disk).now.bytes (kept_by s p.logged p.cut f)
