-- How the count of failures and the causes of faults follow the calls.
use Rattle.std.proofs.Common.{inl, inr, ⊎_elim, ℕ, ◌≤◌, Result, IsErrOf, ◌∙◌, arith}
use Rattle.block_disk.specs.Device.{Device, HasFailed, HasCause, SameMoments}

-- a device that has failed since has failed since earlier
pub failed_since : (a b c : ℕ) → a ≤ b → HasFailed b c → HasFailed a c
failed_since a b c le failed = record {
  later = omega (arith, failed.later);
  rose = ⊎_elim (λ less. inl (omega arith)) (λ last. inr last) failed.rose;
}

-- the cause of an answer is one since earlier
pub cause_since : {T E : Type 0} (a b c : ℕ) (fault : E) (r : Result T E) → a ≤ b → HasCause b c fault r → HasCause a c fault r
cause_since a b c fault r le cause = record {
  later = omega (arith, cause.later);
  failed = λ is. failed_since a b c le (cause.failed is);
}

-- an answer that passes on another's fault has its cause
pub cause_of : {T E S F : Type 0} (a b : ℕ) (fault : E) (r : Result T E) (same : F) (s : Result S F) → (IsErrOf s same → IsErrOf r fault) → HasCause a b fault r
    → HasCause a b same s
cause_of a b fault r same s to cause = record { later = cause.later; failed = λ is. cause.failed (to is) }

-- the same moments after two calls
pub moments_trans : (old mid new : Device) → SameMoments old mid → SameMoments mid new → SameMoments old new
moments_trans old mid new a b = record { name = b.name ∙ a.name; now = b.now ∙ a.now; past = b.past ∙ a.past }
