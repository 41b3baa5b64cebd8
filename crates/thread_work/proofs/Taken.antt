-- Recovery takes what a crash left.
use Rattle.std.proofs.Common.{ℕ, ◌≡◌, List, length, inl, inr, ⊎_elim, refl, sym, ap, subst, ◌∙◌, arith}
use Rattle.heap_model.specs.declared.record.Record.{Record}
use Rattle.heap_model.specs.Setting.{Setting}
use Rattle.block_disk.specs.Device.{Device, synced}
use Rattle.block_disk.specs.Images.{Always, LeavesOnly}
use Rattle.block_disk.proofs.Images.{after_sync, and_then, image_now, leaves_synced, left_now, left_since, stays, weaker}
use Rattle.durable.proofs.Adopting.{rows_recovered, setting_is, setting_of}
use Rattle.durable.proofs.Begun.{begins, empty_committed}
use Rattle.durable.proofs.Running.{left_always}
use Rattle.image_parts.specs.Guards.{no_row}
use Rattle.image_parts.specs.Recovered.{Parts}
use Rattle.image_parts.specs.declared.control.Control.{Control}
use Rattle.image_parts.specs.declared.layout.Layout.{Layout}
use Rattle.recover.specs.Reading.{IsOfOldVersion}
use Rattle.recover.specs.Recovery.{IsCutOff, IsOnTheWay, IsRecovery, OneStudyLaw, StudiedLaw}
use Rattle.recover.specs.Study.{IsStudyOf}
use Rattle.recover_heap.specs.declared.error.RecoverError.TheVariants.{OldVersion}
use Rattle.recover.specs.declared.report.Report.{Report}
use Rattle.recover.specs.declared.studied.Study.{Study}
use Rattle.recover.specs.declared.versions.Versions.TheVariants.{Current}
use Rattle.recover.proofs.RecoveryLemmas.{not_old}
use Rattle.heap_model.specs.Past.{Past, applied, no_past}
use Rattle.law_survival.specs.Accepted.{IsLeftBy}
use Rattle.law_survival.specs.Again.{ByStore, HasStudyLaw}
use Rattle.law_survival.proofs.Accepts.{accepted, isnt_old, of_today}
use Rattle.law_survival.proofs.WholeRuns.{cannot}
use Rattle.store_helper_sections.specs.Image.{ShowsCutOf}
use Rattle.law_rounds.specs.Laws.{RoundLaw}
use Rattle.law_survival.specs.Taken.{IsTaken}
use Rattle.thread_work.specs.Crashes.{RecoveredLaw, RecoveryTakenLaw, RunTakenLaw}

-- what a store leaves
taken_of : HasStudyLaw → (l : Layout) (s : Setting) (p : Past) (image : List ℕ) → IsLeftBy l s p image → IsTaken image
taken_of studied l s p image left =
    let study = studied l s p image (ByStore left) in
    let today = of_today l s p image left in
    record {
      study = study.0;
      of = study.1;
      taken = λ e refused. cannot Current image (λ r refuses. accepted l s p image today r refuses) (isnt_old l s p image today refl) e refused;
    }

pub recovered_taken : HasStudyLaw → RecoveredLaw
recovered_taken studied d l rows slot sequence heap is image left =
    let last : ℕ = 0 in
    let s : Setting = setting_of l rows heap last in
    let set = setting_is l rows heap last (rows_recovered l d rows slot sequence heap is) in
    let consistent = begins l s d rows slot sequence heap is (record { guard = λ f low. set.guards f no_row low; mark = λ f low. set.marks f no_row low; first = set.values }) in
    taken_of studied l s no_past image (left_always l s no_past (empty_committed slot sequence) d consistent image (left_now d image left))

pub run_taken : RoundLaw → RunTakenLaw
run_taken law x s p q old new has ran image left =
    let taken : (log : List (ℕ × Record)) (cut : ℕ → ℕ) → ShowsCutOf x.layout x.threads s log cut image → IsTaken image =
    (λ log cut shows. (law x.layout x.threads s shows.shown shows.kept shows.sections image shows.round shows.shows).accepted) in
    ⊎_elim (λ before. taken (applied p) p.cut (has.images image (left_now old image before))) (λ after. taken (applied q) p.cut after) (ran.shown.each (length old.past) image (omega arith) left)

-- An image with a study of a control of version 2.

record IsCurrent (image : List ℕ) : Type 0 where
  study : Study
  of : IsStudyOf image study
  version : study.control.version ≡ 2

taken_not_old : (image : List ℕ) → IsTaken image → IsOfOldVersion image → ⊥
taken_not_old image is old = ⊎_elim (λ no. absurd cc) (λ more. ⊎_elim (λ no. absurd cc) (λ no. absurd (let worn = no.0 in cc)) more) (is.taken OldVersion old)

current_of : (image : List ℕ) → IsTaken image → IsCurrent image
current_of image is =
    let study = is.study in
    elim is.of.holds.control.shows.spells.valid.version [
      | inl old ↦ absurd (taken_not_old image is (record { layout = study.layout; guards = study.guards.items; slot = study.slot; control = study.control; shown = is.of.holds.control; version = old }))
      | inr now ↦ record { study = study; of = is.of; version = now }
    ]

current_taken : StudiedLaw → (image : List ℕ) → IsCurrent image → IsTaken image
current_taken law image is = record {
  study = is.study;
  of = is.of;
  taken = λ e refused. cannot Current image (λ r refuses. law image is.study r is.of refuses)
      (not_old Current image is.study.layout is.study.guards.items is.study.slot is.study.control is.of.holds.control (λ same one. let two = is.version in omega (arith, one, two))) e refused;
}

-- so is each image on the way of a recovery of one
way_taken : OneStudyLaw → StudiedLaw → (ran : List ℕ) → IsTaken ran → (study : Study) → IsStudyOf ran study → (image : List ℕ) → IsOnTheWay study image → IsTaken image
way_taken one law ran is study of image (inl there) =
    let current = current_of ran is in
    current_taken law image (record { study = study; of = there; version = ap (λ (c : Control). c.version) (one ran study current.study of current.of).controls ∙ current.version })
way_taken one law ran is study of image (inr (e, ended, there)) = current_taken law image (record { study = e; of = there; version = ap (λ (c : Control). c.version) ended.control_is })

-- a recovery leaves what was left before it, or such images
recovery_leaves : OneStudyLaw → StudiedLaw → (ran new : Device) → Always ran IsTaken → IsCutOff ran new → LeavesOnly ran new IsTaken
recovery_leaves one law ran new all (inl same) = stays ran new IsTaken same
recovery_leaves one law ran new all (inr (inl same)) = and_then ran (synced ran) new IsTaken (after_sync ran (synced ran) IsTaken all (leaves_synced ran (synced ran) refl)).0 (stays (synced ran) new IsTaken same)
recovery_leaves one law ran new all (inr (inr (study, of, leaves))) =
    and_then ran (synced ran) new IsTaken (after_sync ran (synced ran) IsTaken all (leaves_synced ran (synced ran) refl)).0
    (weaker (synced ran) new (IsOnTheWay study) IsTaken (way_taken one law ran.now.bytes (all ran.now.bytes (image_now ran)) study of) leaves)

pub recovery_taken : OneStudyLaw → StudiedLaw → RecoveryTakenLaw
recovery_taken one law old ran new later takes cut_off image left =
    let all : Always ran IsTaken = λ now is. takes now (left_since (length old.past) ran now later is) in
    ⊎_elim (λ before. takes image before) (λ is. is) ((recovery_leaves one law ran new all cut_off).each (length old.past) image later left)

-- however a recovery ended, it left what one leaves that is cut off
pub cut_off_there : {D : Type 0} (device : D → Device) (old : Device) (now : Parts D) (report : Report) → IsRecovery old (device now.disk) now report →
    ((s : Study) → IsStudyOf old.now.bytes s → LeavesOnly (synced old) (device now.disk) (IsOnTheWay s)) → (disk : D) → disk ≡ now.disk → IsCutOff old (device disk)
cut_off_there device old now report done leaves disk same = subst (λ (d : Device). IsCutOff old d) (sym (ap device same)) (inr (inr (done.study, done.of, leaves done.study done.of)))
