-- What survives a whole run.
use Rattle.std.proofs.Common.{◌≡◌, ◌⊎◌, inl, inr, ⊎_elim, ℕ, ◌+◌, ◌<◌, ◌≤◌, ◌++◌, Bool, true, false, List, [], ◌∷◌, Option, Some, None, Result, Ok, Err, MatchResult, IfOk, IfErr, length, take, slice_get, refl, sym, ◌∙◌, subst, arith}
use Rattle.heap_model.specs.Setting.{Setting}
use Rattle.heap_model.specs.Sections.{actions}
use Rattle.heap_model.specs.Cuts.{IsWhole, IsClosed, IsStable, counts_of}
use Rattle.block_disk.specs.Device.{Device, LeftSince}
use Rattle.block_disk.specs.Images.{LeavesOnly}
use Rattle.block_disk.proofs.Images.{left_now}
use Rattle.image_parts.specs.Recovered.{Parts}
use Rattle.image_parts.specs.declared.layout.Layout.{Layout}
use Rattle.std.specs.Prelude.{drop}
use Rattle.durable.specs.Calls.{IsClean, MakeAll, Makes, Reached, ShowsAfterSome}
use Rattle.durable.specs.Moments.{LeftUpTo}
use Rattle.store_memory.specs.Fresh.{IsOfLanes}
use Rattle.store_image.specs.KeptHeap.{kept_heap}
use Rattle.heap_model.specs.Past.{Past, IsPast, applied, after_log, after_settle, after_trim}
use Rattle.durable.specs.Store.{Known, HasPast, ShowsStep, doubt_in}
use Rattle.durable.specs.declared.doubt.Doubt.{Doubt}
use Rattle.durable.specs.declared.doubt.Doubt.TheVariants.{Nothing, Settling}
use Rattle.store_image.proofs.Stands.{shows_always}
use Rattle.durable.specs.Store.ShowsStep.{Shows, ShowsLogged, ShowsSettled, ShowsTrimmed}
use Rattle.store_image.specs.declared.home.Home.TheVariants.{Wrote, Done}
use Rattle.durable.specs.declared.store_call.StoreCall.{StoreCall}
use Rattle.durable.specs.declared.store_call.StoreCall.TheVariants.{Apply, Log, Settle, Trim}
use Rattle.durable.specs.declared.store_call.StoreCall.TheVariants.{Home as HomeStep}
use Rattle.durable.proofs.Pasts.{past_apply, past_home, past_log}
use Rattle.law_cuts.proofs.Stays.{cut_stays}
use Rattle.durable.proofs.Showing.{undone_beyond, of_lanes_before, past_settle, past_trim, logged_heap}
use Rattle.law_survival.specs.Accepted.{IsLeftBy}
use Rattle.law_survival.specs.Again.{AreCutOff, Attempt, CurrentOnLaw, HasStudyLaw, IsKept, ByStore, KeptAcceptedLaw, KeptHeapLaw, KeptOnLaw, KeptReportLaw, SurvivesAgain, TellsAgain, TriedLaw}
use Rattle.recover.specs.Recovery.{IsRecovery, IsTooOld, RefusesOf, RefusesRecovery}
use Rattle.recover.specs.Reading.{RefusesImage}
use Rattle.recover.specs.Study.{IsStudyOf, held_by}
use Rattle.law_survival.specs.WholeRun.{IsSettling, Next, Before, Survives, CannotRecover, MayBeLeft}
use Rattle.recover_heap.specs.declared.error.RecoverError.{RecoverError}
use Rattle.recover_heap.specs.declared.error.RecoverError.TheVariants.{Fault, NotFormatted, BadHeader, TooSmall, NoControl, BadControl, OldVersion, Worn, BadRecord, IllegalLog, NoMemory}
use Rattle.recover.specs.declared.report.Report.{Report}
use Rattle.recover.specs.declared.studied.Study.{Study}
use Rattle.recover.specs.declared.versions.Versions.{Versions}
use Rattle.recover.specs.declared.versions.Versions.TheVariants.{Current}
use Rattle.law_survival.proofs.Accepts.{accepted, isnt_old, finds, finds_heap, of_today}

-- a call whose settling is in doubt is one
settles : (o : Option StoreCall) → doubt_in o ≡ Settling → o ≡ Some Settle
settles None is = absurd cc
settles (Some (Apply l r)) is = absurd cc
settles (Some Log) is = absurd cc
settles (Some HomeStep) is = absurd cc
settles (Some Settle) is = refl
settles (Some Trim) is = absurd cc

-- the image shows what the first n calls make of the past, or what is in doubt then; only a settling that was cut off leaves a settling in doubt
pub record ShowsSome (x : Known) (s : Setting) (p : Past) (calls : List StoreCall) (image : List ℕ) : Type 0 where
  pub n : ℕ
  pub within : n ≤ length calls
  pub then : Past
  pub made : MakeAll s p (take n calls) then
  pub is : IsPast s then
  pub of_lanes : IsOfLanes x.layout.lanes (applied then)
  pub doubt : Doubt
  pub settling : doubt ≡ Settling → IsSettling x calls n
  pub shows : ShowsStep x.layout s then doubt image

-- before the first call
shows_first : (x : Known) (s : Setting) (p : Past) (calls : List StoreCall) (old : Device) (image : List ℕ) → HasPast x s p old → (w : Doubt) → (w ≡ Settling → IsSettling x calls 0) → ShowsStep x.layout s p w image →
    ShowsSome x s p calls image
shows_first x s p calls old image has w settling shown = record {
  n = 0;
  within = omega arith;
  then = p;
  made = refl;
  is = has.past;
  of_lanes = subst (λ n. IsOfLanes n (applied p)) has.layout.lanes has.remembers.of_lanes;
  doubt = w;
  settling = settling;
  shows = shown;
}

-- what a crash left of the device before the calls, or what shows what some of them made of the past
shows_either : (x : Known) (s : Setting) (p : Past) (calls : List StoreCall) (old : Device) (image : List ℕ) → HasPast x s p old → LeftSince (length old.past) old image ⊎ ShowsAfterSome x.layout s p calls image →
    ShowsSome x s p calls image
shows_either x s p calls old image has = ⊎_elim
    (λ before. elim x.has_failed as (λ (b : Bool). x.has_failed ≡ b → ShowsSome x s p calls image) [
      | true ↦ λ failed. shows_first x s p calls old image has x.doubt (λ w. Before refl failed w) (has.images image (left_now old image before))
      | false ↦ λ serves. shows_first x s p calls old image has Nothing (λ is. absurd cc) (Shows (shows_always x.layout s p x.committed old (has.agrees serves) image (left_now old image before)))
    ] refl)
    (λ shown. record {
      n = shown.n;
      within = shown.within;
      then = shown.then;
      made = shown.made;
      is = shown.is;
      of_lanes = shown.of_lanes;
      doubt = doubt_in (slice_get calls shown.n);
      settling = λ w. Next (settles (slice_get calls shown.n) w);
      shows = shown.shows;
    })

-- what a crash leaves of a run shows what some of its calls made of the past
pub shows_some : (x : Known) (s : Setting) (p : Past) (calls : List StoreCall) (old new : Device) (image : List ℕ) → HasPast x s p old → LeavesOnly old new (ShowsAfterSome x.layout s p calls) → MayBeLeft old new image →
    ShowsSome x s p calls image
shows_some x s p calls old new image has leaves left = shows_either x s p calls old image has (leaves.each (length old.past) image (omega arith) left)

-- the cut is the acknowledged one, or where a settling is in doubt the stable one
abbrev pub KeepsEither : Setting → Past → Doubt → (ℕ → ℕ) → Type 0
KeepsEither s p w cut = (cut ≡ p.cut) ⊎ ((w ≡ Settling) × IsClean s p × IsStable (actions p.logged) cut)

-- such an image is one that a store of some past leaves, whose acknowledged cut is the one before or the stable one
pub record Left (l : Layout) (s : Setting) (p : Past) (w : Doubt) (image : List ℕ) : Type 0 where
  pub past : Past
  pub is : IsLeftBy l s past image
  pub acknowledged : KeepsEither s p w past.cut
  pub heap : kept_heap l s past.logged past.cut ≡ kept_heap l s p.logged past.cut

pub left_by : (l : Layout) (s : Setting) (p : Past) (w : Doubt) (image : List ℕ) → IsPast s p → IsOfLanes l.lanes (applied p) → ShowsStep l s p w image → Left l s p w image
left_by l s p w image is of (Shows shown) = record {
  past = p;
  is = record { past = is; lanes = λ k from. undone_beyond l.lanes k p.logged (of_lanes_before l.lanes p.fresh p.logged of) from; shows = shown };
  acknowledged = inl refl;
  heap = refl;
}
left_by l s p w image is of (ShowsLogged doubt shown) = record {
  past = after_log p;
  is = record { past = past_log cut_stays s p is; lanes = λ k from. undone_beyond l.lanes k (p.fresh ++ p.logged) of from; shows = shown };
  acknowledged = inl refl;
  heap = logged_heap l s p is;
}
left_by l s p w image is of (ShowsSettled doubt clean cut stable shown) = record {
  past = after_settle p cut;
  is = record { past = past_settle s p cut is stable; lanes = λ k from. undone_beyond l.lanes k p.logged (of_lanes_before l.lanes p.fresh p.logged of) from; shows = shown };
  acknowledged = inr (doubt, clean, stable);
  heap = refl;
}
left_by l s p w image is of (ShowsTrimmed doubt shown) = record {
  past = after_trim p;
  is = record { past = past_trim s p is; lanes = λ k from. undone_beyond l.lanes k p.logged (of_lanes_before l.lanes p.fresh p.logged of) from; shows = shown };
  acknowledged = inl refl;
  heap = refl;
}

-- why it isn't recovered
pub cannot : (v : Versions) (image : List ℕ) → ((e : RecoverError) → RefusesImage image e → (e ≡ Fault) ⊎ (e ≡ NoMemory)) → (IsTooOld v image → ⊥) → (e : RecoverError) → RefusesOf v image e → CannotRecover image e
cannot v image takes young Fault refuses = inl refl
cannot v image takes young NotFormatted refuses = ⊎_elim (λ is. inl is) (λ is. inr (inl is)) (takes NotFormatted refuses)
cannot v image takes young BadHeader refuses = ⊎_elim (λ is. inl is) (λ is. inr (inl is)) (takes BadHeader refuses)
cannot v image takes young TooSmall refuses = ⊎_elim (λ is. inl is) (λ is. inr (inl is)) (takes TooSmall refuses)
cannot v image takes young NoControl refuses = ⊎_elim (λ is. inl is) (λ is. inr (inl is)) (takes NoControl refuses)
cannot v image takes young BadControl refuses = ⊎_elim (λ is. inl is) (λ is. inr (inl is)) (takes BadControl refuses)
cannot v image takes young OldVersion refuses = absurd (young refuses)
cannot v image takes young Worn refuses = inr (inr (refl, refuses.1))
cannot v image takes young (BadRecord lane place) refuses = ⊎_elim (λ is. inl is) (λ is. inr (inl is)) (takes (BadRecord lane place) refuses.1)
cannot v image takes young (IllegalLog lane place) refuses = ⊎_elim (λ is. inl is) (λ is. inr (inl is)) (takes (IllegalLog lane place) refuses.1)
cannot v image takes young NoMemory refuses = inr (inl refl)

-- no call takes back what is acknowledged
pub grows_by : (s : Setting) (p q : Past) (call : StoreCall) → IsPast s p → Makes s p call q → IsPast s q × ((l : ℕ) → p.cut l ≤ q.cut l)
grows_by s p q (Apply l r) is (legal, same) = subst (λ (x : Past). IsPast s x × ((l : ℕ) → p.cut l ≤ x.cut l)) (sym same) (past_apply s p l.0 r is legal, λ l. omega arith)
grows_by s p q Log is same = subst (λ (x : Past). IsPast s x × ((l : ℕ) → p.cut l ≤ x.cut l)) (sym same) (past_log cut_stays s p is, λ l. omega arith)
grows_by s p q HomeStep is (Wrote f, answers, same) = subst (λ (x : Past). IsPast s x × ((l : ℕ) → p.cut l ≤ x.cut l)) (sym same) (past_home s p f.0 is, λ l. omega arith)
grows_by s p q HomeStep is (Done, answers, same) = subst (λ (x : Past). IsPast s x × ((l : ℕ) → p.cut l ≤ x.cut l)) (sym same) (is, λ l. omega arith)
grows_by s p q Settle is (cut, clean, stable, same) = subst (λ (x : Past). IsPast s x × ((l : ℕ) → p.cut l ≤ x.cut l)) (sym same) (past_settle s p cut is stable, stable.greatest p.cut is.whole is.closed)
grows_by s p q Trim is same = subst (λ (x : Past). IsPast s x × ((l : ℕ) → p.cut l ≤ x.cut l)) (sym same) (past_trim s p is, λ l. omega arith)

pub grows : (s : Setting) (p q : Past) (calls : List StoreCall) → IsPast s p → MakeAll s p calls q → (l : ℕ) → p.cut l ≤ q.cut l
grows s p q [] is same l = subst (λ (x : Past). p.cut l ≤ x.cut l) (sym same) (omega arith)
grows s p q (call ∷ calls) is (mid, one, rest) l =
    let next = grows_by s p mid call is one in
    let low = next.1 l in
    let high = grows s mid q calls next.0 rest l in
    omega (arith, low, high)

-- nor does the settling after them
at_least : (s : Setting) (p : Past) (then : Past) (w : Doubt) (cut : ℕ → ℕ) → IsPast s then → ((l : ℕ) → p.cut l ≤ then.cut l) → KeepsEither s then w cut → (l : ℕ) → p.cut l ≤ cut l
at_least s p then w cut is up (inl same) l = subst (λ (c : ℕ → ℕ). p.cut l ≤ c l) (sym same) (up l)
at_least s p then w cut is up (inr settled) l =
    let low = up l in
    let high = settled.2.greatest then.cut is.whole is.closed l in
    omega (arith, low, high)

-- an acknowledged cut is whole and closed
whole_closed : (s : Setting) (then : Past) (w : Doubt) (cut : ℕ → ℕ) → IsPast s then → KeepsEither s then w cut → IsWhole (actions then.logged) cut × IsClosed (actions then.logged) cut
whole_closed s then w cut is (inl same) = subst (λ (c : ℕ → ℕ). IsWhole (actions then.logged) c × IsClosed (actions then.logged) c) (sym same) (is.whole, is.closed)
whole_closed s then w cut is (inr settled) = (settled.2.whole, settled.2.closed)

-- the heap is that of such a cut, and the sections that were kept are its
pub record Keeps (l : Layout) (s : Setting) (p : Past) (w : Doubt) (heap : List ℕ) (kept : ℕ → ℕ) : Type 0 where
  pub cut : ℕ → ℕ
  pub acknowledged : KeepsEither s p w cut
  pub heap_is : heap ≡ kept_heap l s p.logged cut
  pub kept_are : (lane : ℕ) → lane < l.lanes → kept lane ≡ cut lane

-- what a study of an image finds
pub found : (l : Layout) (s : Setting) (p : Past) (w : Doubt) (image : List ℕ) → IsPast s p → IsOfLanes l.lanes (applied p) → ShowsStep l s p w image → (study : Study) → IsStudyOf image study →
    Keeps l s p w study.heap.items (counts_of study.report.kept)
found l s p w image is of_lanes shows study of =
    let left = left_by l s p w image is of_lanes shows in
    let tells = (finds l s left.past image (of_today l s left.past image left.is) (held_by study) of.holds).tells in
    record {
      cut = left.past.cut;
      acknowledged = left.acknowledged;
      heap_is = finds_heap l s left.past image (of_today l s left.past image left.is) study.heap.items (held_by study) of.holds of.stands ∙ left.heap;
      kept_are = λ lane below. of.reports.kept_are lane ∙ tells.kept lane below;
    }

-- what recovery of it answers
pub keeps : {E : Type 0} (l : Layout) (s : Setting) (p : Past) (w : Doubt) (device : E → Device) (image : Device) → IsPast s p → IsOfLanes l.lanes (applied p) → ShowsStep l s p w image.now.bytes →
    (answer : Result (Parts E × Report) (E × RecoverError)) → IfOk answer (λ r. IsRecovery image (device r.0.disk) r.0 r.1) → IfErr answer (λ back. RefusesRecovery image.now.bytes back.1) →
    MatchResult answer (λ r. Keeps l s p w r.0.heap (counts_of r.1.kept)) (λ back. CannotRecover image.now.bytes back.1)
keeps l s p w device image is of_lanes shows (Ok r) done refused =
    subst (λ (heap : List ℕ). Keeps l s p w heap (counts_of r.1.kept)) (sym done.heap_is)
    (subst (λ (report : Report). Keeps l s p w done.study.heap.items (counts_of report.kept)) (sym done.report_is) (found l s p w image.now.bytes is of_lanes shows done.study done.of))
keeps l s p w device image is of_lanes shows (Err back) done refused =
    let by = left_by l s p w image.now.bytes is of_lanes shows in
    cannot Current image.now.bytes (λ e refuses. accepted l s by.past image.now.bytes (of_today l s by.past image.now.bytes by.is) e refuses) (isnt_old l s by.past image.now.bytes (of_today l s by.past image.now.bytes by.is) refl) back.1 refused

-- after a run
pub of_run : (x : Known) (s : Setting) (p : Past) (calls : List StoreCall) (image heap : List ℕ) (kept : ℕ → ℕ) → IsPast s p → (some : ShowsSome x s p calls image) → Keeps x.layout s some.then some.doubt heap kept →
    Survives x s p calls heap kept
of_run x s p calls image heap kept was some keeps =
    let cut = whole_closed s some.then some.doubt keeps.cut some.is keeps.acknowledged in
    record {
      n = some.n;
      within = some.within;
      then = some.then;
      made = some.made;
      is = some.is;
      cut = keeps.cut;
      acknowledged = ⊎_elim (λ same. inl same) (λ settled. inr (some.settling settled.0, settled.1, settled.2)) keeps.acknowledged;
      whole = cut.0;
      closed = cut.1;
      stays = at_least s p some.then some.doubt keeps.cut some.is (grows s p some.then (take some.n calls) was some.made) keeps.acknowledged;
      heap_is = keeps.heap_is;
      kept_are = keeps.kept_are;
    }

survives_some : {E : Type 0} (x : Known) (s : Setting) (p : Past) (calls : List StoreCall) (device : E → Device) (image : Device) → IsPast s p → ShowsSome x s p calls image.now.bytes →
    (answer : Result (Parts E × Report) (E × RecoverError)) → IfOk answer (λ r. IsRecovery image (device r.0.disk) r.0 r.1) → IfErr answer (λ back. RefusesRecovery image.now.bytes back.1) →
    MatchResult answer (λ r. Survives x s p calls r.0.heap (counts_of r.1.kept)) (λ back. CannotRecover image.now.bytes back.1)
survives_some x s p calls device image was some answer done refused =
    elim answer as (λ a. MatchResult a (λ r. Keeps x.layout s some.then some.doubt r.0.heap (counts_of r.1.kept)) (λ back. CannotRecover image.now.bytes back.1) →
    MatchResult a (λ r. Survives x s p calls r.0.heap (counts_of r.1.kept)) (λ back. CannotRecover image.now.bytes back.1)) [
      | Ok r ↦ λ keeps. of_run x s p calls image.now.bytes r.0.heap (counts_of r.1.kept) was some keeps
      | Err back ↦ λ cannot. cannot
    ] (keeps x.layout s some.then some.doubt device image some.is some.of_lanes some.shows answer done refused)

pub survives : {E : Type 0} (x : Known) (s : Setting) (p : Past) (calls : List StoreCall) (old new : Device) (device : E → Device) (image : Device) → HasPast x s p old →
    LeavesOnly old new (ShowsAfterSome x.layout s p calls) → MayBeLeft old new image.now.bytes → (answer : Result (Parts E × Report) (E × RecoverError)) →
    IfOk answer (λ r. IsRecovery image (device r.0.disk) r.0 r.1) → IfErr answer (λ back. RefusesRecovery image.now.bytes back.1) →
    MatchResult answer (λ r. Survives x s p calls r.0.heap (counts_of r.1.kept)) (λ back. CannotRecover image.now.bytes back.1)
survives x s p calls old new device image has leaves left answer done refused =
    survives_some x s p calls device image has.past (shows_some x s p calls old new image.now.bytes has leaves left) answer done refused

-- and of what a crash left since the first n calls
pub survives_since : {E : Type 0} (x : Known) (s : Setting) (p : Past) (calls : List StoreCall) (old new : Device) (device : E → Device) (image : Device) (n : ℕ) →
    (was : Reached s p calls x old new n) → (answer : Result (Parts E × Report) (E × RecoverError)) →
    IfOk answer (λ r. IsRecovery image (device r.0.disk) r.0 r.1) → IfErr answer (λ back. RefusesRecovery image.now.bytes back.1) → MayBeLeft was.device new image.now.bytes →
    MatchResult answer (λ r. Survives was.known s was.then (drop n calls) r.0.heap (counts_of r.1.kept)) (λ back. CannotRecover image.now.bytes back.1)
survives_since x s p calls old new device image n was answer done refused left =
    survives was.known s was.then (drop n calls) was.device new device image was.has
    (subst (λ l. LeavesOnly was.device new (ShowsAfterSome l s was.then (drop n calls))) (sym was.layout) was.rest) left answer done refused

-- and of what a crash left up to then
pub survives_up_to : {E : Type 0} (x : Known) (s : Setting) (p : Past) (calls : List StoreCall) (old new : Device) (device : E → Device) (image : Device) (n : ℕ) → HasPast x s p old →
    (was : Reached s p calls x old new n) → (answer : Result (Parts E × Report) (E × RecoverError)) →
    IfOk answer (λ r. IsRecovery image (device r.0.disk) r.0 r.1) → IfErr answer (λ back. RefusesRecovery image.now.bytes back.1) → LeftUpTo old was.device new image.now.bytes →
    MatchResult answer (λ r. Survives x s p (take n calls) r.0.heap (counts_of r.1.kept)) (λ back. CannotRecover image.now.bytes back.1)
survives_up_to x s p calls old new device image n has was answer done refused left =
    survives_some x s p (take n calls) device image has.past (shows_either x s p (take n calls) old image.now.bytes has (was.before image.now.bytes left)) answer done refused

-- and where recovery was tried before
survived_again : (x : Known) (s : Setting) (p : Past) (calls : List StoreCall) (image last : List ℕ) (study : Study) → IsPast s p → (some : ShowsSome x s p calls image) → (by : Left x.layout s some.then some.doubt image) →
    KeptHeapLaw → KeptReportLaw → IsKept x.layout s by.past last → IsStudyOf last study → SurvivesAgain x s p calls study.heap.items study.report
survived_again x s p calls image last study was some by heaps reports kept of = record {
  kept = by.past.cut;
  survives = of_run x s p calls image study.heap.items by.past.cut was some (record {
    cut = by.past.cut;
    acknowledged = by.acknowledged;
    heap_is = heaps x.layout s by.past last study kept of ∙ by.heap;
    kept_are = λ lane below. refl;
  });
  reported = reports x.layout s by.past last study kept of;
}

pub survives_again : {E : Type 0} (x : Known) (s : Setting) (p : Past) (calls : List StoreCall) (old new : Device) (device : E → Device) (there : Device) (image : List ℕ) (attempts : List Attempt) → HasPast x s p old →
    KeptHeapLaw → KeptReportLaw → KeptAcceptedLaw → KeptOnLaw → HasStudyLaw → CurrentOnLaw → LeavesOnly old new (ShowsAfterSome x.layout s p calls) → MayBeLeft old new image → AreCutOff attempts image there.now.bytes →
    (answer : Result (Parts E × Report) (E × RecoverError)) → IfOk answer (λ r. IsRecovery there (device r.0.disk) r.0 r.1) → IfErr answer (λ back. RefusesRecovery there.now.bytes back.1) →
    MatchResult answer (λ r. SurvivesAgain x s p calls r.0.heap r.1) (λ back. CannotRecover there.now.bytes back.1)
survives_again x s p calls old new device there image attempts has heaps reports takes on studied stays leaves left tries (Ok r) done refused =
    let some = shows_some x s p calls old new image has leaves left in
    let by = left_by x.layout s some.then some.doubt image some.is some.of_lanes some.shows in
    let kept = on x.layout s by.past attempts image there.now.bytes (ByStore by.is) tries in
    subst (λ (heap : List ℕ). SurvivesAgain x s p calls heap r.1) (sym done.heap_is)
    (subst (λ (report : Report). SurvivesAgain x s p calls done.study.heap.items report) (sym done.report_is)
    (survived_again x s p calls image there.now.bytes done.study has.past some by heaps reports kept done.of))
survives_again x s p calls old new device there image attempts has heaps reports takes on studied stays leaves left tries (Err back) done refused =
    let some = shows_some x s p calls old new image has leaves left in
    let by = left_by x.layout s some.then some.doubt image some.is some.of_lanes some.shows in
    let kept = on x.layout s by.past attempts image there.now.bytes (ByStore by.is) tries in
    let first = studied x.layout s by.past image (ByStore by.is) in
    let young = isnt_old x.layout s by.past image (of_today x.layout s by.past image by.is) refl in
    cannot Current there.now.bytes (λ e refuses. takes x.layout s by.past there.now.bytes e kept refuses) (stays attempts image there.now.bytes first.0 first.1 young tries) back.1 refused

-- each image on the way has a study
pub studied_again : (x : Known) (s : Setting) (p : Past) (calls : List StoreCall) (old new : Device) (image last : List ℕ) (attempts : List Attempt) → HasPast x s p old →
    HasStudyLaw → KeptOnLaw → LeavesOnly old new (ShowsAfterSome x.layout s p calls) → MayBeLeft old new image → AreCutOff attempts image last → (study : Study) × IsStudyOf last study
studied_again x s p calls old new image last attempts has studied on leaves left tries =
    let some = shows_some x s p calls old new image has leaves left in
    let by = left_by x.layout s some.then some.doubt image some.is some.of_lanes some.shows in
    studied x.layout s by.past last (on x.layout s by.past attempts image last (ByStore by.is) tries)

-- the heap and the report of each try are those of the first
pub told_again : {E : Type 0} (device : E → Device) (there : Device) (image : List ℕ) (attempts : List Attempt) (first : Study) → IsStudyOf image first → TriedLaw → AreCutOff attempts image there.now.bytes →
    (answer : Result (Parts E × Report) (E × RecoverError)) → IfOk answer (λ r. IsRecovery there (device r.0.disk) r.0 r.1) → IfOk answer (λ r. TellsAgain first r.0.sequence r.0.heap r.1)
told_again device there image attempts first of tried tries (Ok r) done =
    subst (λ (n : ℕ). TellsAgain first n r.0.heap r.1) (sym done.sequence_is)
    (subst (λ (heap : List ℕ). TellsAgain first (done.study.control.sequence + 1) heap r.1) (sym done.heap_is)
    (subst (λ (report : Report). TellsAgain first (done.study.control.sequence + 1) done.study.heap.items report) (sym done.report_is) (tried attempts image there.now.bytes first done.study of tries done.of)))
told_again device there image attempts first of tried tries (Err back) done = tt

pub tried_again : {E : Type 0} (x : Known) (s : Setting) (p : Past) (calls : List StoreCall) (old new : Device) (device : E → Device) (there : Device) (image : List ℕ) (attempts : List Attempt) → HasPast x s p old →
    HasStudyLaw → TriedLaw → LeavesOnly old new (ShowsAfterSome x.layout s p calls) → MayBeLeft old new image → AreCutOff attempts image there.now.bytes →
    (answer : Result (Parts E × Report) (E × RecoverError)) → IfOk answer (λ r. IsRecovery there (device r.0.disk) r.0 r.1) → (first : Study) × IsStudyOf image first × IfOk answer (λ r. TellsAgain first r.0.sequence r.0.heap r.1)
tried_again x s p calls old new device there image attempts has studied tried leaves left tries answer done =
    let some = shows_some x s p calls old new image has leaves left in
    let by = left_by x.layout s some.then some.doubt image some.is some.of_lanes some.shows in
    let first = studied x.layout s by.past image (ByStore by.is) in
    (first.0, first.1, told_again device there image attempts first.0 first.1 tried tries answer done)
