-- What is kept of an image, recovery of that image gives, however often it was tried before.
use Rattle.std.proofs.Common.{ℕ, ◌≡◌, List, Ok, Err, IfErr, IfOk, MatchResult, refl, sym, ap, ◌∙◌, subst, inl, inr, ⊎_elim}
use Rattle.heap_model.specs.declared.event.Event.{Event}
use Rattle.heap_model.specs.Cuts.{counts_of}
use Rattle.heap_model.specs.Setting.{Setting}
use Rattle.block_disk.specs.Device.{Device}
use Rattle.image_parts.specs.declared.layout.Layout.{Layout}
use Rattle.recover.specs.Reading.{IsOfOldVersion}
use Rattle.recover.specs.Recovery.{IsRecovery, IsWorn, OneStudyLaw, RefusesRecovery, StudiedLaw}
use Rattle.recover.specs.declared.report.Report.{Report}
use Rattle.recover.specs.declared.versions.Versions.TheVariants.{Current}
use Rattle.recover_heap.specs.declared.error.RecoverError.{RecoverError}
use Rattle.recover_heap.specs.declared.error.RecoverError.TheVariants.{OldVersion, Worn}
use Rattle.heap_model.specs.Past.{Past}
use Rattle.law_survival.specs.Again.{AreCutOff, Attempt, CurrentOnLaw, HasEnded, StudiedOnLaw, TriedLaw}
use Rattle.law_survival.specs.Promise.{Answer}
use Rattle.law_survival.specs.Taken.{IsTaken}
use Rattle.law_survival.specs.WholeRun.{CannotRecover}
use Rattle.law_survival.proofs.WholeRuns.{cannot}
use Rattle.headline.specs.Headline.{Gives, Headline, HeadlineAgain, MayFail}
use Rattle.law_running.specs.Running.{KeepsRunning}

-- a heap that is the kept one, and a count that is the kept cut
given : (l : Layout) (s : Setting) (p : Past) (seen : List (ℕ × Event)) (image heap : List ℕ) (kept : ℕ → ℕ) (was : KeepsRunning l s p seen image) →
    heap ≡ was.kept.accepted.study.heap.items → ((lane : ℕ) → kept lane ≡ counts_of was.kept.accepted.study.report.kept lane) → Headline l s p seen heap kept
given l s p seen image heap kept was heap_is same =
    let is = was.kept in
    record {
      cut = is.cut;
      reported = λ lane within. same lane ∙ is.kept_are lane within;
      acknowledged = is.stays;
      legal = was.legal;
      whole = λ history goes. (is.keeps history goes).whole;
      closed = λ history goes. (is.keeps history goes).closed;
      values = λ history goes. heap_is ∙ (is.keeps history goes).heap_is;
    }

-- why recovery may fail, without the reason of each
may_fail : (image : List ℕ) (e : RecoverError) → CannotRecover image e → MayFail e
may_fail image e cannot = ⊎_elim (λ fault. inl fault) (λ more. inr (⊎_elim (λ none. inl none) (λ worn. inr worn.0) more)) cannot

-- it says that the sequence is at its end only where it is
pub is_worn : {E : Type 0} (there : Device) (answer : Answer E) → IfErr answer (λ back. RefusesRecovery there.now.bytes back.1) → IfErr answer (λ back. back.1 ≡ Worn → IsWorn there.now.bytes)
is_worn there (Ok r) refused = refused
is_worn there (Err back) refused = λ is. (subst (λ (e : RecoverError). RefusesRecovery there.now.bytes e) is refused).1

pub gives_kept : {E : Type 0} (device : E → Device) (there : Device) (answer : Answer E) → OneStudyLaw →
    IfOk answer (λ r. IsRecovery there (device r.0.disk) r.0 r.1) → IfErr answer (λ back. RefusesRecovery there.now.bytes back.1) →
    (l : Layout) (s : Setting) (p : Past) (seen : List (ℕ × Event)) → KeepsRunning l s p seen there.now.bytes → Gives l s p seen answer
gives_kept device there (Ok r) one done refused l s p seen was =
    let alike = one there.now.bytes was.kept.accepted.study done.study was.kept.accepted.of done.of in
    given l s p seen there.now.bytes r.0.heap (counts_of r.1.kept) was (done.heap_is ∙ sym alike.heaps)
    (λ lane. ap (λ (report : Report). counts_of report.kept lane) done.report_is ∙ sym (alike.reports_same.kept_same lane))
gives_kept device there (Err back) one done refused l s p seen was = may_fail there.now.bytes back.1 (was.kept.accepted.taken back.1 refused)

-- an image that recovery accepts isn't of version 1
not_old : (image : List ℕ) → IsTaken image → IsOfOldVersion image → ⊥
not_old image is old = ⊎_elim (λ no. absurd cc) (λ more. ⊎_elim (λ no. absurd cc) (λ no. absurd (let worn = no.0 in cc)) more) (is.taken OldVersion old)

pub gives_again : {E : Type 0} (device : E → Device) (there : Device) (answer : Answer E) → StudiedLaw → TriedLaw → StudiedOnLaw → CurrentOnLaw →
    IfOk answer (λ r. IsRecovery there (device r.0.disk) r.0 r.1) → IfErr answer (λ back. RefusesRecovery there.now.bytes back.1) →
    (l : Layout) (s : Setting) (p : Past) (seen : List (ℕ × Event)) (first : List ℕ) (attempts : List Attempt) → KeepsRunning l s p seen first → AreCutOff attempts first there.now.bytes →
    MatchResult answer (λ r. HeadlineAgain l s p seen r.0.heap r.1) (λ back. MayFail back.1)
gives_again device there (Ok r) studied tried on current done refused l s p seen first attempts was cut_off =
    let accepted = was.kept.accepted in
    let tells = tried attempts first there.now.bytes accepted.study done.study accepted.of cut_off done.of in
    let report_is : r.1 ≡ done.study.report = done.report_is in
    record {
      kept = counts_of accepted.study.report.kept;
      first = given l s p seen first r.0.heap (counts_of accepted.study.report.kept) was (done.heap_is ∙ tells.heap_is) (λ lane. refl);
      reported = ⊎_elim
          (λ same. inl (λ lane within. ap (λ (report : Report). counts_of report.kept lane) report_is ∙ same.1.kept_same lane))
          (λ ended. inr (subst HasEnded (sym report_is) ended.1))
          tells.reported;
    }
gives_again device there (Err back) studied tried on current done refused l s p seen first attempts was cut_off =
    let accepted = was.kept.accepted in
    let again = on attempts first there.now.bytes accepted.study accepted.of cut_off in
    may_fail there.now.bytes back.1
    (cannot Current there.now.bytes (λ e refuses. studied there.now.bytes again.0 e again.1 refuses)
    (current attempts first there.now.bytes accepted.study accepted.of (not_old first accepted) cut_off) back.1 refused)
