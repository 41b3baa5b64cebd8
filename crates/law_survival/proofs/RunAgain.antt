-- What a recovery leaves of an image that stands for the kept heap, wherever it ends.
use Rattle.std.proofs.Common.{ℕ, Result, Ok, Err, IfOk, IfErr, MatchResult, ◌≡◌, ◌∙◌, ◌+◌, ◌<◌, ◌≤◌, ⊎_elim, List, [], ◌∷◌, length, refl, sym, ap, subst, inl, inr, arith}
use Rattle.heap_model.specs.Setting.{Setting}
use Rattle.block_disk.specs.Device.{Device, Moment, synced}
use Rattle.block_disk.specs.Images.{Always, LeavesOnly}
use Rattle.block_disk.proofs.Images.{after_sync, always_now, always_only, and_then, leaves_synced, left_now, now_too, stays, weaker}
use Rattle.image_parts.specs.Recovered.{Parts}
use Rattle.image_parts.specs.declared.control.Control.{Control}
use Rattle.image_parts.specs.declared.layout.Layout.{Layout}
use Rattle.heap_model.specs.Past.{Past}
use Rattle.recover.specs.Recovery.{AreAlike, IsCutOff, IsEnded, IsOnTheWay, IsRecovery, OneStudyLaw, SameReports, StudiedLaw}
use Rattle.recover_heap.specs.declared.error.RecoverError.{RecoverError}
use Rattle.recover.specs.declared.versions.Versions.TheVariants.{Current}
use Rattle.recover.specs.Reading.{IsOfOldVersion}
use Rattle.recover.proofs.RecoveryLemmas.{not_old}
use Rattle.recover.specs.declared.report.Report.{Report}
use Rattle.recover.specs.Study.{IsStudyOf, held_by}
use Rattle.recover.specs.declared.studied.Study.{Study}
use Rattle.law_survival.specs.Again.{AreCutOff, Attempt, IsKept, ByStore, ByOldStore, ByRecovery, CurrentOnLaw, KeptAcceptedLaw, KeptAgainLaw, KeptHeapLaw, KeptOnLaw, KeptReportLaw, ReportsKept, StaysKept, StudiedOnLaw, TellsAgain, TriedLaw, TriesTakeLaw}
use Rattle.law_survival.specs.WholeRun.{MayBeLeft}
use Rattle.law_survival.proofs.Accepts.{accepted, finds, finds_heap, of_today}

pub kept_is_found : OneStudyLaw → KeptHeapLaw
kept_is_found one l s p image study (ByStore left) of = finds_heap l s p image (of_today l s p image left) study.heap.items (held_by study) of.holds of.stands
kept_is_found one l s p image study (ByOldStore left) of = finds_heap l s p image left study.heap.items (held_by study) of.holds of.stands
kept_is_found one l s p image study (ByRecovery other is heap reports) of = (one image study other of is).heaps ∙ heap

-- two reports that say the same
same_reported : (l : Layout) (p : Past) (a b : Report) → SameReports a b → ReportsKept l p b → ReportsKept l p a
same_reported l p a b same (inl kept) = inl (λ lane below. same.kept_same lane ∙ kept lane below)
same_reported l p a b same (inr ended) = inr (record {
  kept_none = λ lane. same.kept_same lane ∙ ended.kept_none lane;
  dropped_none = same.dropped_same ∙ ended.dropped_none;
  undone_none = same.undone_same ∙ ended.undone_none;
})

pub kept_report : OneStudyLaw → KeptReportLaw
kept_report one l s p image study (ByStore left) of = inl (λ lane below. of.reports.kept_are lane ∙ (finds l s p image (of_today l s p image left) (held_by study) of.holds).tells.kept lane below)
kept_report one l s p image study (ByOldStore left) of = inl (λ lane below. of.reports.kept_are lane ∙ (finds l s p image left (held_by study) of.holds).tells.kept lane below)
kept_report one l s p image study (ByRecovery other is heap reports) of = same_reported l p study.report other.report (one image study other of is).reports_same reports

pub kept_accepted : StudiedLaw → KeptAcceptedLaw
kept_accepted law l s p image e (ByStore left) refuses = accepted l s p image (of_today l s p image left) e refuses
kept_accepted law l s p image e (ByOldStore left) refuses = accepted l s p image left e refuses
kept_accepted law l s p image e (ByRecovery study is heap reports) refuses = law image study e is refuses

-- A recovery that is cut off leaves only such images, where each that was left before it is such, and each on the way.
leaves_on : (old new : Device) (P : List ℕ → Type 0) → Always old P → ((study : Study) → IsStudyOf old.now.bytes study → (image : List ℕ) → IsOnTheWay study image → P image) → IsCutOff old new → LeavesOnly old new P
leaves_on old new P all way (inl same) = stays old new P same
leaves_on old new P all way (inr (inl same)) = and_then old (synced old) new P (after_sync old (synced old) P all (leaves_synced old (synced old) refl)).0 (stays (synced old) new P same)
leaves_on old new P all way (inr (inr (study, of, leaves))) =
    and_then old (synced old) new P (after_sync old (synced old) P all (leaves_synced old (synced old) refl)).0 (weaker (synced old) new (IsOnTheWay study) P (way study of) leaves)

-- what a crash at any moment of it leaves
pub left_on : (old new : Device) (P : List ℕ → Type 0) → Always old P → LeavesOnly old new P → (image : List ℕ) → MayBeLeft old new image → P image
left_on old new P all leaves image left = ⊎_elim (λ before. all image (left_now old image before)) (λ is. is) (leaves.each (length old.past) image (omega arith) left)

module _ (one : OneStudyLaw) (l : Layout) (s : Setting) (p : Past) (old new : Device) (all : Always old (IsKept l s p)) where
  kept_way : (study : Study) → IsStudyOf old.now.bytes study → (image : List ℕ) → IsOnTheWay study image → IsKept l s p image
  kept_way study of image (inl is) =
      let kept : IsKept l s p old.now.bytes = always_now old (IsKept l s p) all in
      ByRecovery study is (kept_is_found one l s p old.now.bytes study kept of) (kept_report one l s p old.now.bytes study kept of)
  kept_way study of image (inr (e, ended, is)) = ByRecovery e is (ended.heap_is ∙ kept_is_found one l s p old.now.bytes study (always_now old (IsKept l s p) all) of)
      (inr (record { kept_none = ended.kept_none; dropped_none = ended.dropped_none; undone_none = ended.undone_none }))

  leaves_kept : IsCutOff old new → LeavesOnly old new (IsKept l s p)
  leaves_kept cut_off = leaves_on old new (IsKept l s p) all kept_way cut_off

  stays_kept : IsCutOff old new → StaysKept l s p old new
  stays_kept cut_off =
      let leaves : LeavesOnly old new (IsKept l s p) = leaves_kept cut_off in
      record {
        any_moment = left_on old new (IsKept l s p) all leaves;
        now = now_too old new (IsKept l s p) all leaves;
      }

pub kept_again : OneStudyLaw → KeptAgainLaw
kept_again one l s p old new all cut_off = stays_kept one l s p old new all cut_off

-- a device with nothing pending leaves what it reads
left_alone : (P : List ℕ → Type 0) (image : List ℕ) (old : Device) → old.now ≡ record { bytes = image; pending = [] } → P image → Always old P
left_alone P image old now is = always_only old P (ap (λ (m : Moment). m.pending) now) (subst P (sym (ap (λ (m : Moment). m.bytes) now)) is)

pub kept_on : OneStudyLaw → KeptOnLaw
kept_on one l s p [] image last kept same = subst (IsKept l s p) (sym same) kept
kept_on one l s p (a ∷ later) image last kept (now, cut_off, (next, left, rest)) =
    kept_on one l s p later next last ((kept_again one l s p a.old a.new (left_alone (IsKept l s p) image a.old now kept) cut_off).any_moment next left) rest

-- What is told over several tries.

-- a study of the image tells what the first one does
record IsTried (first : Study) (image : List ℕ) : Type 0 where
  again : Study
  of : IsStudyOf image again
  tells : TellsAgain first (again.control.sequence + 1) again.heap.items again.report

same_told : (first a b : Study) → AreAlike b a → TellsAgain first (a.control.sequence + 1) a.heap.items a.report → TellsAgain first (b.control.sequence + 1) b.heap.items b.report
same_told first a b same tells =
    let sequences : b.control.sequence ≡ a.control.sequence = ap (λ (c : Control). c.sequence) same.controls in
    record {
      heap_is = same.heaps ∙ tells.heap_is;
      reported = ⊎_elim
          (λ told. inl (
            omega (arith, sequences, told.0),
            record {
              kept_same = λ lane. same.reports_same.kept_same lane ∙ told.1.kept_same lane;
              dropped_same = same.reports_same.dropped_same ∙ told.1.dropped_same;
              undone_same = same.reports_same.undone_same ∙ told.1.undone_same;
            },
          ))
          (λ ended. inr (
            omega (arith, sequences, ended.0),
            record {
              kept_none = λ lane. same.reports_same.kept_same lane ∙ ended.1.kept_none lane;
              dropped_none = same.reports_same.dropped_same ∙ ended.1.dropped_none;
              undone_none = same.reports_same.undone_same ∙ ended.1.undone_none;
            },
          ))
          tells.reported;
    }

-- the control of an ended recovery has a greater sequence than the first
later_control : (first study again e : Study) → AreAlike study again → TellsAgain first (again.control.sequence + 1) again.heap.items again.report → IsEnded study e → first.control.sequence + 1 < e.control.sequence + 1
later_control first study again e same tells ended =
    let sequences : study.control.sequence ≡ again.control.sequence = ap (λ (c : Control). c.sequence) same.controls in
    let next : e.control.sequence ≡ study.control.sequence + 1 = ap (λ (c : Control). c.sequence) ended.control_is in
    ⊎_elim (λ told. omega (arith, sequences, next, told.0)) (λ after. omega (arith, sequences, next, after.0)) tells.reported

-- so it is of each image on the way
tried_way : OneStudyLaw → (first : Study) (old : List ℕ) → IsTried first old → (study : Study) → IsStudyOf old study → (image : List ℕ) → IsOnTheWay study image → IsTried first image
tried_way one first old tried study of image (inl is) = record { again = study; of = is; tells = same_told first tried.again study (one old study tried.again of tried.of) tried.tells }
tried_way one first old tried study of image (inr (e, ended, is)) = record {
  again = e;
  of = is;
  tells = record {
    heap_is = ended.heap_is ∙ (one old study tried.again of tried.of).heaps ∙ tried.tells.heap_is;
    reported = inr (
      later_control first study tried.again e (one old study tried.again of tried.of) tried.tells ended,
      record { kept_none = ended.kept_none; dropped_none = ended.dropped_none; undone_none = ended.undone_none },
    );
  };
}

tried_on : OneStudyLaw → (first : Study) (attempts : List Attempt) (image last : List ℕ) → IsTried first image → AreCutOff attempts image last → IsTried first last
tried_on one first [] image last tried same = subst (IsTried first) (sym same) tried
tried_on one first (a ∷ later) image last tried (now, cut_off, (next, left, rest)) =
    let here : IsTried first a.old.now.bytes = subst (IsTried first) (sym (ap (λ (m : Moment). m.bytes) now)) tried in
    let all : Always a.old (IsTried first) = left_alone (IsTried first) image a.old now tried in
    tried_on one first later next last (left_on a.old a.new (IsTried first) all (leaves_on a.old a.new (IsTried first) all (tried_way one first a.old.now.bytes here) cut_off) next left) rest

pub tried_law : OneStudyLaw → TriedLaw
tried_law one attempts image last first again of tries of_last =
    let begun : IsTried first image = record {
      again = first;
      of = of;
      tells = record { heap_is = refl; reported = inl (refl, record { kept_same = λ lane. refl; dropped_same = refl; undone_same = refl }) };
    } in
    let found : IsTried first last = tried_on one first attempts image last begun tries in
    same_told first found.again again (one last again found.again of_last found.of) found.tells

-- The control's sequence over several tries.

-- the image's study is of a control of this sequence at most
record IsUpTo (most : ℕ) (image : List ℕ) : Type 0 where
  study : Study
  of : IsStudyOf image study
  sequence : study.control.sequence ≤ most

up_to_more : (most more : ℕ) (image : List ℕ) → most ≤ more → IsUpTo most image → IsUpTo more image
up_to_more most more image le is = record { study = is.study; of = is.of; sequence = omega (arith, is.sequence, le) }

-- of each image on the way it is one more at most
up_to_way : OneStudyLaw → (most : ℕ) (old : List ℕ) → IsUpTo most old → (study : Study) → IsStudyOf old study → (image : List ℕ) → IsOnTheWay study image → IsUpTo (most + 1) image
up_to_way one most old is study of image way =
    let same : study.control.sequence ≡ is.study.control.sequence = ap (λ (c : Control). c.sequence) (one old study is.study of is.of).controls in
    ⊎_elim
    (λ there. record { study = study; of = there; sequence = omega (arith, same, is.sequence) })
    (λ ended. record { study = ended.0; of = ended.2; sequence = omega (arith, same, is.sequence, ap (λ (c : Control). c.sequence) ended.1.control_is) })
    way

up_to_tries : OneStudyLaw → (attempts : List Attempt) (most : ℕ) (image last : List ℕ) → IsUpTo most image → AreCutOff attempts image last → IsUpTo (most + length attempts) last
up_to_tries one [] most image last is same = up_to_more most (most + 0) last (omega arith) (subst (IsUpTo most) (sym same) is)
up_to_tries one (a ∷ later) most image last is (now, cut_off, (next, left, rest)) =
    let here : IsUpTo most a.old.now.bytes = subst (IsUpTo most) (sym (ap (λ (m : Moment). m.bytes) now)) is in
    let all : Always a.old (IsUpTo (most + 1)) = left_alone (IsUpTo (most + 1)) image a.old now (up_to_more most (most + 1) image (omega arith) is) in
    let then : IsUpTo (most + 1) next = left_on a.old a.new (IsUpTo (most + 1)) all (leaves_on a.old a.new (IsUpTo (most + 1)) all (up_to_way one most a.old.now.bytes here) cut_off) next left in
    up_to_more (most + 1 + length later) (most + length (a ∷ later)) last (omega arith) (up_to_tries one later (most + 1) next last then rest)

tries_up_to : OneStudyLaw → (attempts : List Attempt) (image last : List ℕ) (first : Study) → IsStudyOf image first → AreCutOff attempts image last → IsUpTo (first.control.sequence + length attempts) last
tries_up_to one attempts image last first of tries = up_to_tries one attempts first.control.sequence image last (record { study = first; of = of; sequence = omega arith }) tries

pub studied_on : OneStudyLaw → StudiedOnLaw
studied_on one attempts image last first of tries = let found = tries_up_to one attempts image last first of tries in (found.study, found.of)

pub tries_take : OneStudyLaw → TriesTakeLaw
tries_take one attempts image last first again of tries of_last =
    let found = tries_up_to one attempts image last first of tries in
    omega (arith, ap (λ (c : Control). c.sequence) (one last again found.study of_last found.of).controls, found.sequence)

-- The version over several tries.

-- the image's study is of a control of version 2
record IsCurrent (image : List ℕ) : Type 0 where
  study : Study
  of : IsStudyOf image study
  version : study.control.version ≡ 2

current_of : (image : List ℕ) (study : Study) → IsStudyOf image study → (IsOfOldVersion image → ⊥) → IsCurrent image
current_of image study of young = elim of.holds.control.shows.spells.valid.version [
  | inl old ↦ absurd (young (record { layout = study.layout; guards = study.guards.items; slot = study.slot; control = study.control; shown = of.holds.control; version = old }))
  | inr now ↦ record { study = study; of = of; version = now }
]

isnt_old : (image : List ℕ) → IsCurrent image → IsOfOldVersion image → ⊥
isnt_old image is = not_old Current image is.study.layout is.study.guards.items is.study.slot is.study.control is.of.holds.control (λ _ one. omega (arith, one, is.version))

-- so it is of each image on the way
current_way : OneStudyLaw → (old : List ℕ) → IsCurrent old → (study : Study) → IsStudyOf old study → (image : List ℕ) → IsOnTheWay study image → IsCurrent image
current_way one old is study of image (inl there) = record {
  study = study;
  of = there;
  version = ap (λ (c : Control). c.version) (one old study is.study of is.of).controls ∙ is.version;
}
current_way one old is study of image (inr (e, ended, there)) = record { study = e; of = there; version = ap (λ (c : Control). c.version) ended.control_is }

current_tries : OneStudyLaw → (attempts : List Attempt) (image last : List ℕ) → IsCurrent image → AreCutOff attempts image last → IsCurrent last
current_tries one [] image last is same = subst IsCurrent (sym same) is
current_tries one (a ∷ later) image last is (now, cut_off, (next, left, rest)) =
    let here : IsCurrent a.old.now.bytes = subst IsCurrent (sym (ap (λ (m : Moment). m.bytes) now)) is in
    let all : Always a.old IsCurrent = left_alone IsCurrent image a.old now is in
    current_tries one later next last (left_on a.old a.new IsCurrent all (leaves_on a.old a.new IsCurrent all (current_way one a.old.now.bytes here) cut_off) next left) rest

pub current_on : OneStudyLaw → CurrentOnLaw
current_on one attempts image last study of young tries = isnt_old last (current_tries one attempts image last (current_of image study of young) tries)

-- however a recovery ended, it left what one leaves that is cut off
pub always_cut_off : {E : Type 0} (device : E → Device) (old : Device) (answer : Result (Parts E × Report) (E × RecoverError)) → IfOk answer (λ r. IsRecovery old (device r.0.disk) r.0 r.1) →
    IfOk answer (λ r. (s : Study) → IsStudyOf old.now.bytes s → LeavesOnly (synced old) (device r.0.disk) (IsOnTheWay s)) → IfErr answer (λ back. IsCutOff old (device back.0)) →
    MatchResult answer (λ r. IsCutOff old (device r.0.disk)) (λ back. IsCutOff old (device back.0))
always_cut_off device old (Ok r) done leaves cut_off = inr (inr (done.study, done.of, leaves done.study done.of))
always_cut_off device old (Err back) done leaves cut_off = cut_off
