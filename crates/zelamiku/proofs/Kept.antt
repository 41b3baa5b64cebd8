-- What was acknowledged is kept by whatever a crash leaves of the host's device.
use Rattle.std.proofs.Common.{◌≡◌, ◌↔◌, ◌<◌, ◌≤◌, ℕ, inl, inr, Result, Ok, Err, OnOk}
use Rattle.std.proofs.lemmas.Bool.{cases_lt}
use Rattle.disk_deferred.specs.Host.{HaveMet}
use Rattle.host_heap.specs.Hosting.{Hosting}
use Rattle.host_heap.specs.Meeting.{AreAllMade, SameButMet}
use Rattle.host_heap.specs.declared.error.AcknowledgedError.{AcknowledgedError}
use Rattle.host_heap.specs.declared.error.AcknowledgedError.TheVariants.{BadLane}
use Rattle.law_hosted.specs.Safe.{AcknowledgedLaw, KeepsFrom, KeepsNow, NowLaw}

module _ (x y : Hosting) (lane lanes : ℕ) (same : SameButMet x y) where
  -- a lane that is told of is one of the heap's
  met_of : (n : ℕ) → (Ok n ≡ Err BadLane) ↔ (lanes ≤ lane) → (lane < lanes → HaveMet y.helper.store.disk y.calls) → HaveMet y.helper.store.disk y.calls
  met_of n bad met = elim (cases_lt lane lanes) [ inl low ↦ met low | inr high ↦ absurd (let no : Ok n ≡ Err BadLane = bad.1 high in cc) ]

  pub safe_now : NowLaw → (answer : Result ℕ AcknowledgedError) → OnOk answer (AreAllMade y.calls) → (answer ≡ Err BadLane) ↔ (lanes ≤ lane) → (lane < lanes → HaveMet y.helper.store.disk y.calls) → OnOk answer (KeepsNow x y)
  safe_now law (Ok n) made bad met = law x y same (met_of n bad met) made
  safe_now law (Err e) made bad met = tt

  pub kept_from : AcknowledgedLaw → (answer : Result ℕ AcknowledgedError) → OnOk answer (AreAllMade y.calls) → (answer ≡ Err BadLane) ↔ (lanes ≤ lane) → (lane < lanes → HaveMet y.helper.store.disk y.calls) → OnOk answer (KeepsFrom x y)
  kept_from law (Ok n) made bad met = law x y same (met_of n bad met) made
  kept_from law (Err e) made bad met = tt
