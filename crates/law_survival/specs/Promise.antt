-- What is promised of a whole run. A store plays calls, which take it from x to y. A crash at some moment leaves bytes, which the device
-- `left` holds. Recovery of that device answers `told`. Each part holds whatever past the store has (this project's own).
use Rattle.std.specs.Prelude.{ℕ, ◌≡◌, ◌⊎◌, ◌+◌, ◌-◌, ◌^◌, ◌≤◌, false, List, Result, drop, length, IfErr, IfOk, MatchResult}
use Rattle.block_disk.specs.Device.{Device, HasFailed, SameMoments, synced}
use Rattle.block_disk.specs.Images.{LeavesOnly}
use Rattle.heap_model.specs.Cuts.{counts_of}
use Rattle.heap_model.specs.Setting.{Setting}
use Rattle.image_parts.specs.Recovered.{Parts as Restored}
use Rattle.durable.specs.Calls.{Reached, made_of}
use Rattle.durable.specs.Moments.{LeftUpTo}
use Rattle.durable.specs.Steps.{IsPastOf}
use Rattle.durable.specs.Store.{Known, Parts}
use Rattle.durable.specs.declared.store_call.StoreCall.{StoreCall}
use Rattle.heap_model.specs.Past.{Past}
use Rattle.heap_model.specs.declared.store_error.StoreError.{StoreError}
use Rattle.recover.specs.Recovery.{IsCutOff, IsOnTheWay, IsRecovery, LeavesOnTheWay, RefusesRecovery}
use Rattle.recover.specs.Study.{IsStudyOf}
use Rattle.recover_heap.specs.declared.error.RecoverError.{RecoverError}
use Rattle.recover_heap.specs.declared.error.RecoverError.TheVariants.{Fault, Worn}
use Rattle.recover.specs.declared.report.Report.{Report}
use Rattle.recover.specs.declared.studied.Study.{Study}
use Rattle.law_survival.specs.Again.{AreCutOff, Attempt, SurvivesAgain, TellsAgain}
use Rattle.law_survival.specs.WholeRun.{CannotRecover, MayBeLeft, Survives, SurvivesBy}

-- what recovery answers: what it has recovered with its report, or the device with the reason
abbrev pub Answer : Type 0 → Type 0
Answer E = Result (Restored E × Report) (E × RecoverError)

-- What survives.

-- recovery gives what survives of these calls; or a call of its device failed, memory ran out, or the control's sequence is at its end
abbrev pub GivesSurvivors : {E : Type 0} → Known → Setting → Past → List StoreCall → (image : List ℕ) → Answer E → Type 0
GivesSurvivors x s p calls image told = MatchResult told (λ r. Survives x s p calls r.0.heap (counts_of r.1.kept)) (λ back. CannotRecover image back.1)

pub record SurvivesCrash {D : Type 0} (device : D → Device) (x y : Parts D) (calls : List StoreCall) {E : Type 0} (image : List ℕ) (told : Answer E) : Type 0 where
  -- Whatever image a crash leaves at any moment of the run, recovery gives the heap that was acknowledged after some of the calls, or the
  -- one that a settling was acknowledging when it was cut off, unless a call of its device fails, memory runs out, or the control's
  -- sequence is at its last value.
  pub heap : (s : Setting) (p : Past) → IsPastOf device x s p → MayBeLeft (device x.disk) (device y.disk) image → GivesSurvivors x.known s p calls image told

-- At which moment.

-- The moment at which the first n calls had been made.
pub record IsMoment {D : Type 0} (device : D → Device) (x y : Parts D) (calls : List StoreCall) {E : Type 0} (image : List ℕ) (told : Answer E)
    (s : Setting) (p : Past) (n : ℕ) : Type 0 where
  -- There was a moment at which the first n calls had been made.
  pub was : Reached s p calls x.known (device x.disk) (device y.disk) n
  -- If the crash comes from then on, what survives is of the calls after these: no section acknowledged by then is lost.
  pub since : MayBeLeft was.device (device y.disk) image → GivesSurvivors was.known s was.then (drop n calls) image told
  -- If the crash comes by then, what survives is of these calls alone. Unless the store had failed before, no section acknowledged later
  -- is kept.
  pub up_to : LeftUpTo (device x.disk) was.device (device y.disk) image
      → MatchResult told (λ r. SurvivesBy x.known s p calls n was.then r.0.heap (counts_of r.1.kept)) (λ back. CannotRecover image back.1)

pub record HasMoments {D : Type 0} (device : D → Device) (x y : Parts D) (calls : List StoreCall) (played : Result (Unit {0}) (ℕ × StoreError))
    {E : Type 0} (image : List ℕ) (told : Answer E) : Type 0 where
  -- After each call that was made there is a moment that parts the run in two.
  pub each : (s : Setting) (p : Past) → IsPastOf device x s p → (n : ℕ) → n ≤ made_of calls played → IsMoment device x y calls image told s p n

-- Tried again.

-- Recovery was tried before: a crash in the run left the image `first`, each of the attempts was cut off, and the last one left `image`.
pub record WasTried {D : Type 0} (device : D → Device) (x y : Parts D) (s : Setting) (p : Past) (first : List ℕ) (attempts : List Attempt) (image : List ℕ) : Type 0 where
  -- the store had this past before the calls
  pub has : IsPastOf device x s p
  -- a crash left this image at some moment of the run
  pub left : MayBeLeft (device x.disk) (device y.disk) first
  -- each attempt found what a crash had left of the one before it
  pub tries : AreCutOff attempts first image

-- What recovery says after these attempts.
pub record TellsTheSame (x : Known) (s : Setting) (p : Past) (calls : List StoreCall) {E : Type 0} (first : List ℕ) (attempts : List Attempt) (image : List ℕ) (told : Answer E) : Type 0 where
  -- Recovery gives the heap that was acknowledged after some of the calls, however often it was tried before, unless a call of its device
  -- fails, memory runs out, or the control's sequence is at its last value.
  pub heap : MatchResult told (λ r. SurvivesAgain x s p calls r.0.heap r.1) (λ back. CannotRecover image back.1)
  -- Its heap and its report are those of the first attempt, or it reports that an earlier attempt has ended.
  pub first_told : (study : Study) × IsStudyOf first study × IfOk told (λ r. TellsAgain study r.0.sequence r.0.heap r.1)
  -- The image has a study, so that what is said of its study is said of one that is there.
  pub studied : (study : Study) × IsStudyOf image study
  -- If the store hadn't failed, recovery refuses the image as worn only if the store began within as many of the last sequence as there
  -- were calls and attempts.
  pub unworn : x.has_failed ≡ false → IfErr told (λ back. back.1 ≡ Worn → 2 ^ 64 - 1 ≤ x.committed.sequence + length calls + length attempts)

pub record SurvivesTries {D : Type 0} (device : D → Device) (x y : Parts D) (calls : List StoreCall) {E : Type 0} (image : List ℕ) (told : Answer E) : Type 0 where
  -- Recovery may be cut off any number of times: the next attempt says what the first would have said.
  pub each : (s : Setting) (p : Past) (first : List ℕ) (attempts : List Attempt) → WasTried device x y s p first attempts image
      → TellsTheSame x.known s p calls first attempts image told

-- What recovery says by itself.
pub record Recovers {E : Type 0} (device : E → Device) (left : E) (told : Answer E) : Type 0 where
  -- Recovery gives what the study of the image found, or its refusal tells what is wrong with the image.
  pub found : MatchResult told (λ r. IsRecovery (device left) (device r.0.disk) r.0 r.1) (λ back. RefusesRecovery (device left).now.bytes back.1)
  -- After a success, each image that a crash left since the first sync is one on the way to the recovered image.
  pub any_moment : IfOk told (λ r. (s : Study) → IsStudyOf (device left).now.bytes s → LeavesOnly (synced (device left)) (device r.0.disk) (IsOnTheWay s))
  -- Every refusal except `Fault` leaves the device as it was after its first sync.
  pub untouched : IfErr told (λ back. (back.1 ≡ Fault) ⊎ SameMoments (synced (device left)) (device back.0))
  -- After a refusal, each image that a crash left is one from before, or one on the way.
  pub interrupted : IfErr told (λ back. (s : Study) → IsStudyOf (device left).now.bytes s → LeavesOnTheWay s (device left) (device back.0))
  -- However recovery ends, it counts as an attempt that was cut off, and another may follow.
  pub cut_off : MatchResult told (λ r. IsCutOff (device left) (device r.0.disk)) (λ back. IsCutOff (device left) (device back.0))
  -- The refusal is `Fault` only if a call of the device has failed.
  pub cause : IfErr told (λ back. back.1 ≡ Fault → HasFailed (device left).failures (device back.0).failures)
