-- What survives of a heap of version 1.
use Rattle.std.proofs.Common.{ℕ, ◌∙◌, List, sym, subst, Result, Ok, Err, IfErr, IfOk, MatchResult}
use Rattle.heap_model.specs.History.{log_of}
use Rattle.heap_model.specs.Setting.{Setting}
use Rattle.block_disk.specs.Device.{Device}
use Rattle.law_histories.specs.Laws.{LogLaw, OrderLaw}
use Rattle.image_parts.specs.Recovered.{Parts}
use Rattle.image_parts.specs.declared.layout.Layout.{Layout}
use Rattle.recover.specs.Recovery.{IsRecovery, RefusesUpgrade}
use Rattle.recover.specs.Study.{IsStudyOf}
use Rattle.recover_heap.specs.declared.error.RecoverError.{RecoverError}
use Rattle.recover.specs.declared.report.Report.{Report}
use Rattle.recover.specs.declared.studied.Study.{Study}
use Rattle.recover.specs.declared.versions.Versions.TheVariants.{Both}
use Rattle.heap_model.specs.Past.{Past}
use Rattle.law_survival.specs.Again.{AreCutOff, Attempt, ByOldStore, HasStudyLaw, KeptAcceptedLaw, KeptHeapLaw, KeptOnLaw, KeptReportLaw, ReportsKept, TellsAgain, TriedLaw}
use Rattle.law_survival.specs.Old.{IsLeftByOld}
use Rattle.law_survival.specs.Upgrade.{OldHistoryLaw, SurvivesUpgrade}
use Rattle.law_survival.specs.WholeRun.{CannotRecover}
use Rattle.law_survival.proofs.Histories.{keeps_history, older_first}
use Rattle.law_survival.proofs.WholeRuns.{cannot, told_again}

pub survives_upgrade : {E : Type 0} (l : Layout) (s : Setting) (p : Past) (device : E → Device) (there : Device) (image : List ℕ) (attempts : List Attempt) → IsLeftByOld l s p image →
    KeptHeapLaw → KeptReportLaw → KeptAcceptedLaw → KeptOnLaw → AreCutOff attempts image there.now.bytes →
    (answer : Result (Parts E × Report) (E × RecoverError)) → IfOk answer (λ r. IsRecovery there (device r.0.disk) r.0 r.1) → IfErr answer (λ back. RefusesUpgrade there.now.bytes back.1) →
    MatchResult answer (λ r. SurvivesUpgrade l s p r.0.heap r.1) (λ back. CannotRecover there.now.bytes back.1)
survives_upgrade l s p device there image attempts left heaps reports takes on tries (Ok r) done refused =
    let kept = on l s p attempts image there.now.bytes (ByOldStore left) tries in
    record {
      whole = left.past.whole;
      closed = left.past.closed;
      heap_is = done.heap_is ∙ heaps l s p there.now.bytes done.study kept done.of;
      reported = subst (λ (report : Report). ReportsKept l p report) (sym done.report_is) (reports l s p there.now.bytes done.study kept done.of);
    }
survives_upgrade l s p device there image attempts left heaps reports takes on tries (Err back) done refused =
    let kept = on l s p attempts image there.now.bytes (ByOldStore left) tries in
    cannot Both there.now.bytes (λ e refuses. takes l s p there.now.bytes e kept refuses) (λ none. none) back.1 refused

pub tried_upgrade : {E : Type 0} (l : Layout) (s : Setting) (p : Past) (device : E → Device) (there : Device) (image : List ℕ) (attempts : List Attempt) → IsLeftByOld l s p image →
    HasStudyLaw → TriedLaw → AreCutOff attempts image there.now.bytes →
    (answer : Result (Parts E × Report) (E × RecoverError)) → IfOk answer (λ r. IsRecovery there (device r.0.disk) r.0 r.1) → (first : Study) × IsStudyOf image first × IfOk answer (λ r. TellsAgain first r.0.sequence r.0.heap r.1)
tried_upgrade l s p device there image attempts left studied tried tries answer done =
    let first = studied l s p image (ByOldStore left) in
    (first.0, first.1, told_again device there image attempts first.0 first.1 tried tries answer done)

pub old_history : LogLaw → OrderLaw → OldHistoryLaw
old_history log_legal in_order l s p image history heap report left legal told by =
    keeps_history log_legal in_order l s p history heap p.cut left.past legal (older_first p.fresh p.logged (log_of s history) told) by.whole by.closed by.heap_is
