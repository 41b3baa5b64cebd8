-- What a crash leaves of calls that were made one after another.
use Rattle.std.proofs.Common.{ℕ, Bool, ◌≡◌, List, [], ◌∷◌, ◌++◌, refl, sym, ◌∙◌, subst}
use Rattle.heap_model.specs.Cuts.{counts_of}
use Rattle.heap_model.specs.History.{IsLegalHistory, log_of}
use Rattle.heap_model.specs.Log.{IsLaneWisePrefix}
use Rattle.heap_model.specs.Setting.{Setting}
use Rattle.heap_model.specs.declared.event.Event.{Event}
use Rattle.heap_model.specs.declared.record.Record.{Record}
use Rattle.block_disk.specs.Device.{Device}
use Rattle.law_histories.specs.Laws.{LogLaw, OrderLaw}
use Rattle.durable.specs.Runs.{HasRun, IsCut}
use Rattle.durable.specs.Store.{HasPast, Known}
use Rattle.durable.specs.declared.store_call.StoreCall.{StoreCall}
use Rattle.durable.specs.declared.store_call.StoreCall.TheVariants.{Apply, Log, Home as HomeStep, Settle, Trim}
use Rattle.image_parts.specs.declared.layout.Layout.{Layout}
use Rattle.heap_model.specs.Past.{Past, applied}
use Rattle.law_survival.specs.Again.{ByStore, HasStudyLaw}
use Rattle.law_survival.specs.History.{KeepsHistory, applied_by}
use Rattle.law_survival.specs.Running.{KeepsOfHistory, RunLaw}
use Rattle.law_survival.specs.WholeRun.{MayBeLeft}
use Rattle.recover.specs.declared.versions.Versions.TheVariants.{Current}
use Rattle.law_survival.proofs.Accepts.{accepted, isnt_old, of_today}
use Rattle.law_survival.proofs.Histories.{made_all, of_history}
use Rattle.law_survival.proofs.WholeRuns.{cannot, found, left_by, of_run, shows_some}

applied_then : (calls more : List StoreCall) (before : List (ℕ × Record)) → applied_by (calls ++ more) before ≡ applied_by more (applied_by calls before)
applied_then [] more before = refl
applied_then (Apply l r ∷ calls) more before = applied_then calls more ((l.0, r) ∷ before)
applied_then (Log ∷ calls) more before = applied_then calls more before
applied_then (HomeStep ∷ calls) more before = applied_then calls more before
applied_then (Settle ∷ calls) more before = applied_then calls more before
applied_then (Trim ∷ calls) more before = applied_then calls more before

-- what was cut off applies nothing
none_applied : (cut : List StoreCall) (before : List (ℕ × Record)) → IsCut cut → applied_by cut before ≡ before
none_applied [] before is = refl
none_applied (Log ∷ []) before is = refl
none_applied (HomeStep ∷ []) before is = refl
none_applied (Settle ∷ []) before is = refl
none_applied (Trim ∷ []) before is = refl
none_applied (Settle ∷ Trim ∷ []) before is = refl
none_applied (Apply l r ∷ more) before is = elim is [ ]
none_applied (Log ∷ (next ∷ more)) before is = elim is [ ]
none_applied (HomeStep ∷ (next ∷ more)) before is = elim is [ ]
none_applied (Settle ∷ (Apply l r ∷ more)) before is = elim is [ ]
none_applied (Settle ∷ (Log ∷ more)) before is = elim is [ ]
none_applied (Settle ∷ (HomeStep ∷ more)) before is = elim is [ ]
none_applied (Settle ∷ (Settle ∷ more)) before is = elim is [ ]
none_applied (Settle ∷ (Trim ∷ (next ∷ more))) before is = elim is [ ]
none_applied (Trim ∷ (next ∷ more)) before is = elim is [ ]

-- a crash at any moment of a store's run
store_keeps : LogLaw → OrderLaw → HasStudyLaw → (x : Known) (s : Setting) (p q : Past) (old new : Device) (failed : Bool) (history : List (ℕ × Event)) (image : List ℕ) → HasPast x s p old → HasRun x.layout s p old q new failed →
    IsLegalHistory s history → IsLaneWisePrefix (applied q) (log_of s history) → MayBeLeft old new image → KeepsOfHistory x.layout s p history image
store_keeps log_legal in_order studied x s p q old new failed history image has ran legal told left =
    let all : List StoreCall = ran.calls ++ ran.cut_off in
    let some = shows_some x s p all old new image has ran.shown left in
    let by = left_by x.layout s some.then some.doubt image some.is some.of_lanes some.shows in
    let study = studied x.layout s by.past image (ByStore by.is) in
    let kept = counts_of study.0.report.kept in
    let survives = of_run x s p all image study.0.heap.items kept has.past some (found x.layout s some.then some.doubt image some.is some.of_lanes some.shows study.0 study.1) in
    let records : applied q ≡ applied_by all (applied p) =
    made_all s p q ran.calls ran.made ∙ sym (none_applied ran.cut_off (applied_by ran.calls (applied p)) ran.is_cut) ∙ sym (applied_then ran.calls ran.cut_off (applied p)) in
    record {
      accepted = record {
        study = study.0;
        of = study.1;
        taken = λ e refused. cannot Current image (λ r refuses. accepted x.layout s by.past image (of_today x.layout s by.past image by.is) r refuses) (isnt_old x.layout s by.past image (of_today x.layout s by.past image by.is) refl) e refused;
      };
      cut = survives.cut;
      stays = survives.stays;
      kept_are = survives.kept_are;
      keeps = λ other same. subst (λ (h : List (ℕ × Event)). KeepsHistory x.layout s h survives.cut study.0.heap.items) (sym same)
          (of_history log_legal in_order x s p all history study.0.heap.items kept legal (subst (λ (xs : List (ℕ × Record)). IsLaneWisePrefix xs (log_of s history)) records told) survives);
    }

pub keeps_run : LogLaw → OrderLaw → HasStudyLaw → RunLaw
keeps_run log_legal in_order studied l s p old new history image run legal told left =
    let before : HasRun run.store.layout s p old run.now new run.has_failed = subst (λ (k : Layout). HasRun k s p old run.now new run.has_failed) (sym run.layout) run.ran in
    subst (λ (k : Layout). KeepsOfHistory k s p history image) run.layout
    (store_keeps log_legal in_order studied run.store s p run.now old new run.has_failed history image run.has before legal told left)
