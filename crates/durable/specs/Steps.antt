-- What each call that writes promises: one record a call, over the whole store before it (x) and after it (y). Each part holds
-- whatever past the store has. A new image is one that a crash during the call may leave, and that a crash before it couldn't have left
-- (this project's own).
use Rattle.std.specs.Prelude.{ℕ, ◌≡◌, ◌≢◌, ◌-◌, ◌+◌, ◌≤◌, ◌^◌, ◌⊎◌, true, false, List, [], length, Result, Ok, IfErr, IfOk, IsErrOf, OnErr, OnOk, MatchResult}
use Rattle.heap_model.specs.declared.record.Record.{Record}
use Rattle.heap_model.specs.Setting.{Setting}
use Rattle.heap_model.specs.Sections.{actions}
use Rattle.heap_model.specs.Cuts.{IsStable}
use Rattle.block_disk.specs.Device.{Device, HasCause}
use Rattle.block_disk.specs.Images.{ImageBut, LeavesOnly}
use Rattle.image_parts.specs.declared.layout.Layout.{Layout}
use Rattle.durable.specs.Calls.{AnswersHome, IsClean, RefusesApply, RefusesHome, RefusesLog, RefusesSettle, RefusesTrim, after_home_step}
use Rattle.durable.specs.Store.{Parts, HasPast, ShowsStep}
use Rattle.durable.specs.declared.doubt.Doubt.{Doubt}
use Rattle.durable.specs.declared.doubt.Doubt.TheVariants.{Nothing, Logging, Settling, Trimming}
use Rattle.store_image.specs.Consistent.{ShowsPast}
use Rattle.store_image.specs.KeptHeap.{StandsForCut, StandsForEither}
use Rattle.store_image.specs.Sequences.{ShowsUpTo}
use Rattle.store_image.specs.Steps.{step_ranges}
use Rattle.store_image.specs.declared.home.Home.{Home}
use Rattle.store_image.specs.declared.home.Home.TheVariants.{Done}
use Rattle.store_memory.specs.Apply.{Answers}
use Rattle.heap_model.specs.Past.{Past, IsTrimmed, after_apply, after_log, after_settle, after_trim}
use Rattle.heap_model.specs.declared.store_error.StoreError.{StoreError}
use Rattle.heap_model.specs.declared.store_error.StoreError.TheVariants.{Worn, Fault}

module _ {D : Type 0} (device : D → Device) where
  -- the store has this past
  abbrev pub IsPastOf : Parts D → Setting → Past → Type 0
  IsPastOf x s p = HasPast x.known s p (device x.disk)

  -- each new image shows a control of this sequence or of a lower one
  abbrev pub ShowsUpToMeanwhile : (x y : Parts D) → (last : ℕ) → Type 0
  ShowsUpToMeanwhile x y last = LeavesOnly (device x.disk) (device y.disk) (ShowsUpTo x.known.layout last)

  -- the calls since x have written only the slots of the control, home cells and the lanes' areas
  abbrev pub WritesWithin : (x y : Parts D) → Type 0
  WritesWithin x y = LeavesOnly (device x.disk) (device y.disk) (ImageBut (device x.disk) (step_ranges x.known.layout))

  -- each new image stands for the heap of the sections acknowledged before
  abbrev pub StandsMeanwhile : (x y : Parts D) → Type 0
  StandsMeanwhile x y = (s : Setting) (p : Past) → IsPastOf x s p
      → LeavesOnly (device x.disk) (device y.disk) (StandsForCut x.known.layout s p.logged p.cut)

  -- each new image stands for the heap of the sections acknowledged before, or for the heap of the stable cut
  abbrev pub StandsForOneOf : (x y : Parts D) → Type 0
  StandsForOneOf x y = (s : Setting) (p : Past) (cut : ℕ → ℕ) → IsPastOf x s p → IsStable (actions p.logged) cut
      → LeavesOnly (device x.disk) (device y.disk) (StandsForEither x.known.layout s p.logged p.cut cut)

-- What all calls that write have in common. `call` is what a fault of the call leaves in doubt. `Shows` is what each new image shows.
-- `last` is the highest sequence that the call may give the control.
pub record Writes {D A : Type 0} (device : D → Device) (call : Doubt) (Shows : Layout → Setting → Past → List ℕ → Type 0) (last : ℕ)
    (x y : Parts D) (result : Result A StoreError) : Type 0 where
  -- A call succeeds only on a store that hasn't failed, and leaves it so.
  pub running : OnOk result ((x.known.has_failed ≡ false) × (y.known.has_failed ≡ false))
  -- After a refusal, the store has the past that it had before the call.
  pub kept : (s : Setting) (p : Past) → IsPastOf device x s p → OnErr result (IsPastOf device y s p)
  -- Every refusal except `Fault` leaves the store and its device as they were.
  pub refused : IfErr result (λ e. (e ≡ Fault) ⊎ (y ≡ x))
  -- After a `Fault`, the store has failed.
  pub failed : IsErrOf result Fault → y.known.has_failed ≡ true
  -- After a `Fault`, what this call leaves in doubt is in doubt, and nothing else.
  pub in_doubt : IsErrOf result Fault → y.known.doubt ≡ call
  -- Each new image shows the past, or what the call in doubt makes of it.
  pub shown : (s : Setting) (p : Past) → IsPastOf device x s p → LeavesOnly (device x.disk) (device y.disk) (Shows x.known.layout s p)
  -- The call answers `Fault` only if a call of the device has failed since it began.
  pub cause : HasCause (device x.disk).failures (device y.disk).failures Fault result
  -- The control's sequence stays at or below the highest that the call may give it.
  pub sequence : y.known.committed.sequence ≤ last
  -- Each new image shows a control of at most the highest sequence that the call may give it.
  pub any_sequence : ShowsUpToMeanwhile device x y last
  -- The call writes only the slots of the control, home cells and the lanes' areas.
  pub within : WritesWithin device x y
  -- The layout of the image stays.
  pub layout : y.known.layout ≡ x.known.layout

-- A call that commits a control takes one sequence at most, and each new image shows the past or what the call makes of it.
abbrev pub Commits : {D A : Type 0} → (device : D → Device) → Doubt → (x y : Parts D) → Result A StoreError → Type 0
Commits device call x y result = Writes device call (λ l s p. ShowsStep l s p call) (x.known.committed.sequence + 1) x y result

-- `apply`: the store is told the lane's next record.
pub record Applies {D : Type 0} (device : D → Device) (x y : Parts D) (lane : ℕ) (next : Record) (result : Result (Unit {0}) StoreError) : Type 0 where
  -- A record that is taken may come next in its lane; each refusal has its own reason, in the order of the call's doc.
  pub answer : (s : Setting) (p : Past) → IsPastOf device x s p
      → MatchResult result (λ done. Answers s x.known.memory p lane next (Ok done)) (RefusesApply x.known s p lane next)
  -- After a success, the record is the newest that was applied.
  pub ok : (s : Setting) (p : Past) → IsPastOf device x s p → OnOk result (IsPastOf device y s (after_apply p lane next))
  -- A call succeeds only on a store that hasn't failed, and leaves it so.
  pub running : OnOk result ((x.known.has_failed ≡ false) × (y.known.has_failed ≡ false))
  -- The call never answers `Fault`.
  pub no_fault : IfErr result (λ e. e ≢ Fault)
  -- A refusal changes nothing.
  pub err : OnErr result (y ≡ x)
  -- The call doesn't touch the device.
  pub disk : y.disk ≡ x.disk
  -- The control's sequence stays.
  pub sequence : y.known.committed.sequence ≡ x.known.committed.sequence
  -- The layout of the image stays.
  pub layout : y.known.layout ≡ x.known.layout

-- `log_step`: what was applied becomes durable.
pub record Logs {D : Type 0} (device : D → Device) (x y : Parts D) (result : Result ℕ StoreError) : Type 0 where
  -- It is a call that commits a control.
  pub writes : Commits device Logging x y result
  -- After a success, all records that were applied are logged.
  pub ok : (s : Setting) (p : Past) → IsPastOf device x s p → OnOk result (IsPastOf device y s (after_log p))
  -- It answers how many records it has logged; each refusal has its own reason.
  pub answer : (s : Setting) (p : Past) → IsPastOf device x s p
      → MatchResult result (λ count. (x.known.has_failed ≡ false) × (count ≡ length p.fresh)) (RefusesLog x.known p)
  -- If there is no record to log, the device isn't called.
  pub none : (s : Setting) (p : Past) → IsPastOf device x s p → p.fresh ≡ [] → device y.disk ≡ device x.disk
  -- If there is a record to log and the control's sequence is at its last value, a running store answers `Worn`.
  pub worn : (s : Setting) (p : Past) → IsPastOf device x s p → x.known.has_failed ≡ false → p.fresh ≢ []
      → x.known.committed.sequence ≡ 2 ^ 64 - 1 → IsErrOf result Worn
  -- Each new image stands for the heap of the acknowledged sections.
  pub any_moment : StandsMeanwhile device x y

-- `home_step`: one dirty field's logged value goes to its home cell.
pub record GoesHome {D : Type 0} (device : D → Device) (x y : Parts D) (result : Result Home StoreError) : Type 0 where
  -- It is a call that writes, but commits no control: each new image shows the past, and no fault leaves anything in doubt.
  pub writes : Writes device Nothing ShowsPast x.known.committed.sequence x y result
  -- After a success, the field that it names is no longer dirty.
  pub ok : (s : Setting) (p : Past) → IsPastOf device x s p → IfOk result (λ home. IsPastOf device y s (after_home_step p home))
  -- It names the least dirty field, or says that no field is dirty; each refusal has its own reason.
  pub answer : (s : Setting) (p : Past) → IsPastOf device x s p
      → MatchResult result (λ home. (x.known.has_failed ≡ false) × AnswersHome s p home) (RefusesHome x.known)
  -- If it says that no field is dirty, nothing has changed.
  pub done : result ≡ Ok Done → y ≡ x
  -- If no field is dirty, nothing changes.
  pub none : (s : Setting) (p : Past) → IsPastOf device x s p → IsClean s p → y ≡ x
  -- Each new image stands for the heap of the acknowledged sections.
  pub any_moment : StandsMeanwhile device x y
  -- The control's sequence stays.
  pub sequence : y.known.committed.sequence ≡ x.known.committed.sequence

-- `settle`: the stable cut of what is logged is acknowledged.
pub record Settles {D : Type 0} (device : D → Device) (x y : Parts D) (result : Result (Unit {0}) StoreError) : Type 0 where
  -- It is a call that commits a control.
  pub writes : Commits device Settling x y result
  -- After a success, the stable cut of all that is logged is acknowledged.
  pub ok : (s : Setting) (p : Past) (cut : ℕ → ℕ) → IsPastOf device x s p → IsStable (actions p.logged) cut → OnOk result (IsPastOf device y s (after_settle p cut))
  -- It succeeds only if no field is dirty; each refusal has its own reason.
  pub answer : (s : Setting) (p : Past) → IsPastOf device x s p
      → MatchResult result (λ done. (x.known.has_failed ≡ false) × IsClean s p) (RefusesSettle x.known s p)
  -- If no field is dirty and the control's sequence is at its last value, a running store answers `Worn`.
  pub worn : (s : Setting) (p : Past) → IsPastOf device x s p → x.known.has_failed ≡ false → IsClean s p
      → x.known.committed.sequence ≡ 2 ^ 64 - 1 → IsErrOf result Worn
  -- Each new image stands for the heap of the sections acknowledged before, or for that of the stable cut.
  pub any_moment : StandsForOneOf device x y

-- `trim`: the acknowledged sections are forgotten.
pub record Trims {D : Type 0} (device : D → Device) (x y : Parts D) (result : Result (Unit {0}) StoreError) : Type 0 where
  -- It is a call that commits a control.
  pub writes : Commits device Trimming x y result
  -- After a success, what is acknowledged is forgotten.
  pub ok : (s : Setting) (p : Past) → IsPastOf device x s p → OnOk result (IsPastOf device y s (after_trim p))
  -- It succeeds only on a store that hasn't failed; each refusal has its own reason.
  pub answer : (s : Setting) (p : Past) → IsPastOf device x s p → MatchResult result (λ done. x.known.has_failed ≡ false) (RefusesTrim x.known p)
  -- If there is nothing to forget, nothing changes.
  pub none : (s : Setting) (p : Past) → IsPastOf device x s p → IsTrimmed p → y ≡ x
  -- If there is something to forget and the control's sequence is at its last value, a running store answers `Worn`.
  pub worn : (s : Setting) (p : Past) → IsPastOf device x s p → x.known.has_failed ≡ false → ¬ IsTrimmed p
      → x.known.committed.sequence ≡ 2 ^ 64 - 1 → IsErrOf result Worn
  -- Each new image stands for the heap of the acknowledged sections.
  pub any_moment : StandsMeanwhile device x y
