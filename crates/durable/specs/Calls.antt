-- What each call of a store makes of its past, and why it is refused (this project's own).
use Rattle.std.specs.Prelude.{ℕ, ◌≡◌, ◌≢◌, ◌-◌, ◌<◌, ◌≤◌, ◌^◌, ◌⊎◌, true, false, Some, Ok, Err, List, [], ◌∷◌, length, take, drop, slice_get, Result}
use Rattle.heap_model.specs.declared.record.Record.{Record}
use Rattle.heap_model.specs.Setting.{Setting}
use Rattle.heap_model.specs.Log.{lane, IsLegal}
use Rattle.heap_model.specs.Sections.{actions, ended}
use Rattle.heap_model.specs.Cuts.{IsStable}
use Rattle.block_disk.specs.Device.{Device, LeftSince}
use Rattle.block_disk.specs.Images.{LeavesOnly}
use Rattle.durable.specs.Moments.{LeftUpTo}
use Rattle.image_parts.specs.declared.layout.Layout.{Layout}
use Rattle.heap_model.specs.declared.store_error.StoreError.{StoreError}
use Rattle.heap_model.specs.declared.store_error.StoreError.TheVariants.{Failed, Worn, Unwritten, Fault, Unfinished}
use Rattle.store_image.specs.declared.home.Home.{Home}
use Rattle.store_image.specs.declared.home.Home.TheVariants.{Wrote, Done}
use Rattle.durable.specs.declared.store_call.StoreCall.{StoreCall}
use Rattle.durable.specs.declared.store_call.StoreCall.TheVariants.{Apply, Log, Home as HomeStep, Settle, Trim}
use Rattle.store_memory.specs.Apply.{Answers}
use Rattle.store_memory.specs.Begin.{IsLeastDirtyOf}
use Rattle.heap_model.specs.Past.{Past, IsPast, IsTrimmed, applied, after_apply, after_log, after_home, after_settle, after_trim}
use Rattle.store_memory.specs.Fresh.{IsOfLanes}
use Rattle.store_memory.specs.Remembers.{held_of}
pub use Rattle.durable.specs.Store.{IsClean}
use Rattle.durable.specs.Store.{Known, ShowsStep, StandsForStep, HasPast, doubt_in}

-- a field has a logged store newer than its last home write
abbrev pub HasDirty : Setting → Past → Type 0
HasDirty s p = (f : ℕ) × (f < s.fields) × (p.is_dirty f ≡ true)

-- a lane holds a monitor
abbrev pub HasOpen : Past → Type 0
HasOpen p = (l : ℕ) × (0 < held_of p l)

-- Everything is where it stays: all is logged and at home, and each section that ended is acknowledged.
pub record IsWritten (s : Setting) (p : Past) : Type 0 where
  pub logged : p.fresh ≡ []
  pub home : IsClean s p
  pub acknowledged : (l : ℕ) → ended (lane l (actions p.logged)) ≤ p.cut l

-- A call that may be refused for a failed device: it is, or it isn't and the rest holds.
abbrev pub RefusesApply : Known → Setting → Past → (lane : ℕ) → Record → StoreError → Type 0
RefusesApply x s p l r Failed = x.has_failed ≡ true
RefusesApply x s p l r e = (x.has_failed ≡ false) × Answers s x.memory p l r (Err e)

-- why nothing is logged: `Worn` where there are records and the control's sequence is at its last value
abbrev pub RefusesLog : Known → Past → StoreError → Type 0
RefusesLog x p Failed = x.has_failed ≡ true
RefusesLog x p Worn = (x.has_failed ≡ false) × (x.committed.sequence ≡ 2 ^ 64 - 1) × (p.fresh ≢ [])
RefusesLog x p Fault = x.has_failed ≡ false
RefusesLog x p _ = ⊥

-- why nothing is written home
abbrev pub RefusesHome : Known → StoreError → Type 0
RefusesHome x Failed = x.has_failed ≡ true
RefusesHome x Fault = x.has_failed ≡ false
RefusesHome x _ = ⊥

-- why nothing is acknowledged, in the order of the tests
abbrev pub RefusesSettle : Known → Setting → Past → StoreError → Type 0
RefusesSettle x s p Failed = x.has_failed ≡ true
RefusesSettle x s p Unwritten = (x.has_failed ≡ false) × HasDirty s p
RefusesSettle x s p Worn = (x.has_failed ≡ false) × IsClean s p × (x.committed.sequence ≡ 2 ^ 64 - 1)
RefusesSettle x s p Fault = (x.has_failed ≡ false) × IsClean s p
RefusesSettle x s p _ = ⊥

-- why nothing is trimmed: `Worn` where there is something to trim and the control's sequence is at its last value
abbrev pub RefusesTrim : Known → Past → StoreError → Type 0
RefusesTrim x p Failed = x.has_failed ≡ true
RefusesTrim x p Worn = (x.has_failed ≡ false) × (x.committed.sequence ≡ 2 ^ 64 - 1) × (¬ IsTrimmed p)
RefusesTrim x p Fault = (x.has_failed ≡ false) × (¬ IsTrimmed p)
RefusesTrim x p _ = ⊥

-- why a store isn't closed, in the order of the tests
abbrev pub RefusesClose : Known → Setting → Past → StoreError → Type 0
RefusesClose x s p Failed = x.has_failed ≡ true
RefusesClose x s p Unfinished = (x.has_failed ≡ false) × HasOpen p
RefusesClose x s p Unwritten = (x.has_failed ≡ false) × (¬ HasOpen p) × (¬ IsWritten s p)
RefusesClose x s p _ = ⊥

-- the past after a home step's answer
abbrev pub after_home_step : Past → Home → Past
after_home_step p (Wrote f) = after_home p f.0
after_home_step p Done = p

-- what a home step answers
abbrev pub AnswersHome : Setting → Past → Home → Type 0
AnswersHome s p (Wrote f) = IsLeastDirtyOf s p f.0
AnswersHome s p Done = IsClean s p

-- why a call is refused
abbrev pub RefusesCall : Known → Setting → Past → StoreCall → StoreError → Type 0
RefusesCall x s p (Apply l r) e = RefusesApply x s p l.0 r e
RefusesCall x s p Log e = RefusesLog x p e
RefusesCall x s p HomeStep e = RefusesHome x e
RefusesCall x s p Settle e = RefusesSettle x s p e
RefusesCall x s p Trim e = RefusesTrim x p e

-- what a call that isn't refused makes of the past
abbrev pub Makes : Setting → Past → StoreCall → Past → Type 0
Makes s p (Apply l r) q = IsLegal s ((l.0, r) ∷ applied p) × (q ≡ after_apply p l.0 r)
Makes s p Log q = q ≡ after_log p
Makes s p HomeStep q = (home : Home) × AnswersHome s p home × (q ≡ after_home_step p home)
Makes s p Settle q = (cut : ℕ → ℕ) × IsClean s p × IsStable (actions p.logged) cut × (q ≡ after_settle p cut)
Makes s p Trim q = q ≡ after_trim p

-- The call doesn't touch the device: a record is told, or nothing is there to be logged, to be written home or to be trimmed.
abbrev pub IsQuiet : Setting → Past → StoreCall → Type 0
IsQuiet s p (Apply l r) = Unit {0}
IsQuiet s p Log = p.fresh ≡ []
IsQuiet s p HomeStep = IsClean s p
IsQuiet s p Settle = ⊥
IsQuiet s p Trim = IsTrimmed p

-- so is each of these calls, after those before it
abbrev pub AreQuiet : Setting → Past → List StoreCall → Type 0
AreQuiet s p [] = Unit {0}
AreQuiet s p (call ∷ calls) = IsQuiet s p call × ((next : Past) → Makes s p call next → AreQuiet s next calls)

-- what a list of calls makes of it, the first of them first
abbrev pub MakeAll : Setting → Past → List StoreCall → Past → Type 0
MakeAll s p [] q = q ≡ p
MakeAll s p (call ∷ calls) q = (mid : Past) × Makes s p call mid × MakeAll s mid calls q

-- the image shows what the first n calls make of the past, or what the next of them makes of that
pub record ShowsAfterSome (l : Layout) (s : Setting) (p : Past) (calls : List StoreCall) (image : List ℕ) : Type 0 where
  pub n : ℕ
  pub within : n ≤ length calls
  pub then : Past
  pub made : MakeAll s p (take n calls) then
  -- a store may have that past, and its records are of the image's lanes
  pub is : IsPast s then
  pub of_lanes : IsOfLanes l.lanes (applied then)
  pub shows : ShowsStep l s then (doubt_in (slice_get calls n)) image

-- the image stands for the heap acknowledged then, or for that of the stable cut where the next call acknowledges that
pub record StandsAfterSome (l : Layout) (s : Setting) (p : Past) (calls : List StoreCall) (image : List ℕ) : Type 0 where
  pub n : ℕ
  pub within : n ≤ length calls
  pub then : Past
  pub made : MakeAll s p (take n calls) then
  pub stands : StandsForStep l s then (doubt_in (slice_get calls n)) image

-- how many of the calls were made
abbrev pub made_of : List StoreCall → Result (Unit {0}) (ℕ × StoreError) → ℕ
made_of calls (Ok done) = length calls
made_of calls (Err e) = e.0

-- Right after the first n calls the store and its device were these. What a crash left at any moment since shows what some of
-- the other calls make of the past that was reached; what one left at any moment up to then shows what some of the first n calls
-- make of the past before them, or is left of the time before them, and shows nothing of the other calls.
pub record Reached (s : Setting) (p : Past) (calls : List StoreCall) (old : Known) (first last : Device) (n : ℕ) : Type 0 where
  pub then : Past
  pub made : MakeAll s p (take n calls) then
  pub known : Known
  pub device : Device
  pub has : HasPast known s then device
  pub layout : known.layout ≡ old.layout
  pub running : known.has_failed ≡ old.has_failed
  pub since : length first.past ≤ length device.past
  pub rest : LeavesOnly device last (ShowsAfterSome old.layout s then (drop n calls))
  pub before : (image : List ℕ) → LeftUpTo first device last image → LeftSince (length first.past) first image ⊎ ShowsAfterSome old.layout s p (take n calls) image

-- So many calls were made, none with a fault, and the next was refused for this reason: but for a fault it left the store and its
-- device as they were.
pub record StoppedAt (s : Setting) (p : Past) (calls : List StoreCall) (old new : Known) (d : Device) (n : ℕ) (reason : StoreError) : Type 0 where
  pub call : StoreCall
  pub is : slice_get calls n ≡ Some call
  pub then : Past
  pub made : MakeAll s p (take n calls) then
  pub has : HasPast new s then d
  -- the store and its device right before that call
  pub known : Known
  pub device : Device
  pub had : HasPast known s then device
  pub running : known.has_failed ≡ old.has_failed
  pub refused : RefusesCall known s then call reason
  pub unchanged : (reason ≡ Fault) ⊎ (known ≡ new)
  pub untouched : (reason ≡ Fault) ⊎ (device ≡ d)
