-- Why the store stops the closing.
use Rattle.std.proofs.Common.{ℕ, ◌≡◌, ◌+◌, ◌≤◌, true, List, ◌∙◌, sym, subst, ⊎_elim, arith}
use Rattle.block_disk.specs.Device.{Device, HasFailed}
use Rattle.heap_model.specs.Setting.{Setting}
use Rattle.store_rounds.specs.Store.{Known, HasPast}
use Rattle.heap_model.specs.Past.{Past}
use Rattle.heap_model.specs.declared.store_error.StoreError.{StoreError}
use Rattle.heap_model.specs.declared.store_error.StoreError.TheVariants.{Failed, Worn, Fault}
use Rattle.trim_helper.specs.declared.close_error.CloseError.{CloseError}
use Rattle.trim_helper.specs.declared.close_error.CloseError.TheVariants as close
use Rattle.trim_helper.specs.declared.ended.Ended.{Ended}
use Rattle.trim_helper.specs.Endings.{IsCloseStop, IsCloseWhy, IsOfSessions, RefusesEnded}
use Rattle.trim_helper.specs.Settled.{IsStop, RefusesRound}

module _ (old : Known) (before now : Device) (reason : StoreError) (e : CloseError) (stop : IsStop reason) (failed : e ≡ close.Failed → reason ≡ Failed) (worn : e ≡ close.Worn → reason ≡ Worn) (fault : IsStop reason → e ≡ close.Fault → reason ≡ Fault) where
  -- nothing could be applied
  pub why_drained : reason ≡ Failed → old.has_failed ≡ true → IsCloseWhy old before now e
  why_drained is off = record {
    failed = λ same. off;
    worn = λ same. absurd (let no : Failed ≡ Worn = sym is ∙ worn same in cc);
    soon = λ same. absurd (let no : Failed ≡ Worn = sym is ∙ worn same in cc);
    fault = λ same. absurd (let no : Failed ≡ Fault = sym is ∙ fault stop same in cc);
  }

  -- what was applied could not be made durable
  pub why_settled : (mid new : Known) (s : Setting) (p : Past) → mid.has_failed ≡ old.has_failed → RefusesRound mid new reason → HasPast new s p now → new.committed.sequence ≤ old.committed.sequence + 2 → (reason ≡ Fault → HasFailed before.failures now.failures) → IsCloseWhy old before now e
  why_settled mid new s p same why has most broke = record {
    failed = λ is. let told : RefusesRound mid new Failed = subst (RefusesRound mid new) (failed is) why in sym same ∙ told.0;
    worn = λ is. let told : RefusesRound mid new Worn = subst (RefusesRound mid new) (worn is) why in record { known = new; setting = s; past = p; has = has; runs = told.1; last = told.2 };
    soon = λ is. let told : RefusesRound mid new Worn = subst (RefusesRound mid new) (worn is) why in omega (arith, told.2, most);
    fault = λ is. broke (fault stop is);
  }

-- the store stops it, so the sessions don't
pub not_sessions : (e : CloseError) → IsCloseStop e → IsOfSessions e → ⊥
not_sessions (close.Missing l) stop is = ⊎_elim (λ a. absurd cc) (λ b. ⊎_elim (λ x. absurd cc) (λ y. absurd cc) b) stop
not_sessions (close.Unfinished l) stop is = ⊎_elim (λ a. absurd cc) (λ b. ⊎_elim (λ x. absurd cc) (λ y. absurd cc) b) stop
not_sessions close.Failed stop is = is
not_sessions close.Worn stop is = is
not_sessions close.Fault stop is = is

-- sessions that stop it name no reason of the store
pub never_why : (lanes : ℕ) (es : List Ended) (old : Known) (before now : Device) (e : CloseError) → RefusesEnded lanes es e → IsCloseWhy old before now e
never_why lanes es old before now (close.Missing l) why = record { failed = λ is. absurd cc; worn = λ is. absurd cc; soon = λ is. absurd cc; fault = λ is. absurd cc }
never_why lanes es old before now (close.Unfinished l) why = record { failed = λ is. absurd cc; worn = λ is. absurd cc; soon = λ is. absurd cc; fault = λ is. absurd cc }
never_why lanes es old before now close.Failed why = elim why [ ]
never_why lanes es old before now close.Worn why = elim why [ ]
never_why lanes es old before now close.Fault why = elim why [ ]
