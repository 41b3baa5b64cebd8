-- What making records durable makes of a past.
use Rattle.std.specs.Prelude.{ℕ, ◌≡◌, ◌≤◌, ◌⊎◌, ◌-◌, ◌^◌, if◌then◌else◌, true, false, [], Result, OnOk, IfErr, IsErrOf}
use Rattle.heap_model.specs.Setting.{Setting}
use Rattle.heap_model.specs.Sections.{actions}
use Rattle.heap_model.specs.Cuts.{IsStable}
use Rattle.block_disk.specs.Device.{Device}
use Rattle.heap_model.specs.Past.{Past, IsTrimmed, applied}
use Rattle.store_rounds.specs.Runs.{HasRun}
use Rattle.store_rounds.specs.Store as stores
use Rattle.store_rounds.specs.Store.{Known, HasPast}
use Rattle.trim_helper.specs.Taken.{trimmed_of}
use Rattle.heap_model.specs.declared.store_error.StoreError.{StoreError}
use Rattle.heap_model.specs.declared.store_error.StoreError.TheVariants.{Failed, Worn, Fault}

-- By calls since the first device the same records were applied; what was acknowledged still is, and what was trimmed stays so.
pub record HasSame (old : Device) (x : Known) (d : Device) (s : Setting) (p : Past) : Type 0 where
  pub now : Past
  pub has : HasPast x s now d
  pub same : applied now ≡ applied p
  pub cut : (l : ℕ) → p.cut l ≤ now.cut l
  pub places : (l : ℕ) → trimmed_of p l ≤ trimmed_of now l
  pub ran : HasRun x.layout x.threads s p old now d

-- All that was applied is logged, and its stable cut is acknowledged.
pub record IsSettled (s : Setting) (p : Past) : Type 0 where
  pub logged : p.fresh ≡ []
  pub stable : IsStable (actions (applied p)) p.cut

-- What was applied is durable, where a store of this past runs: it may be published.
pub record IsDurable (x : Known) (s : Setting) (p : Past) : Type 0 where
  -- Where what was applied is durable, the store hasn't failed.
  pub running : x.has_failed ≡ false
  -- Where what was applied is durable, all of it is logged, and its stable cut is acknowledged.
  pub settled : IsSettled s p
  -- Where what was applied is durable, all that is acknowledged is trimmed.
  pub trimmed : IsTrimmed p

-- why a helper stops
abbrev pub IsStop : StoreError → Type 0
IsStop e = (e ≡ Failed) ⊎ ((e ≡ Worn) ⊎ (e ≡ Fault))

-- Why a round is refused, and whether the store runs on. The device had failed before: it doesn't. The control has to be written, and its
-- sequence is at its last value: it does. A call of the device failed now: it doesn't from now on.
abbrev pub RefusesRound : (old new : Known) → StoreError → Type 0
RefusesRound old new Failed = (old.has_failed ≡ true) × (new.has_failed ≡ true)
RefusesRound old new Worn = (old.has_failed ≡ false) × (new.has_failed ≡ false) × (new.committed.sequence ≡ 2 ^ 64 - 1)
RefusesRound old new Fault = (old.has_failed ≡ false) × (new.has_failed ≡ true)
RefusesRound old new _ = ⊥

-- What was applied is made durable and its stable cut acknowledged, or that is refused.
pub record Settles (s : Setting) (p : Past) (old : Known) (before : Device) (new : Known) (now : Device) (answer : Result (Unit {0}) StoreError) : Type 0 where
  pub same : HasSame before new now s p
  pub settled : OnOk answer (IsSettled s same.now)
  pub failed : old.has_failed ≡ true → IsErrOf answer Failed
  pub refused : IfErr answer (RefusesRound old new)

-- So it is, and what is acknowledged is trimmed.
pub record SettlesAndTrims (s : Setting) (p : Past) (old : Known) (before : Device) (new : Known) (now : Device) (answer : Result (Unit {0}) StoreError) : Type 0 where
  pub settles : Settles s p old before new now answer
  pub trimmed : OnOk answer (IsTrimmed settles.same.now)

module _ {D : Type 0} (device : D → Device) where
  -- so it is whatever past the store has
  abbrev pub SettlesApplied : (x y : stores.Parts D) → Result (Unit {0}) StoreError → Type 0
  SettlesApplied x y answer = (s : Setting) (p : Past) → HasPast x.known s p (device x.disk) → Settles s p x.known (device x.disk) y.known (device y.disk) answer

  abbrev pub SettlesAndTrimsApplied : (x y : stores.Parts D) → Result (Unit {0}) StoreError → Type 0
  SettlesAndTrimsApplied x y answer = (s : Setting) (p : Past) → HasPast x.known s p (device x.disk) → SettlesAndTrims s p x.known (device x.disk) y.known (device y.disk) answer

  -- A store that has failed stays as it is, and so does its device.
  abbrev pub StaysFailed : (x y : stores.Parts D) → Type 0
  StaysFailed x y = (s : Setting) (p : Past) → HasPast x.known s p (device x.disk) → x.known.has_failed ≡ true → y ≡ x

-- the field's value once all is at home: a persistent one's last, and a transient one's first
abbrev pub closed_value : Setting → (value : ℕ → ℕ) → (field : ℕ) → ℕ
closed_value s value f = if s.is_logged f then value f else s.first f
