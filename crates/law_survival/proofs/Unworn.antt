-- Recovery refuses an image as worn only where its control had come near to its last sequence.
use Rattle.std.proofs.Common.{ℕ, ◌≡◌, ◌+◌, ◌-◌, ◌^◌, ◌≤◌, false, List, Result, Ok, Err, IfErr, length, sym, subst, arith}
use Rattle.heap_model.specs.Setting.{Setting}
use Rattle.block_disk.specs.Device.{Device}
use Rattle.block_disk.specs.Images.{LeavesOnly}
use Rattle.image_parts.specs.Control.{control_of}
use Rattle.image_parts.specs.Header.{HasHeader}
use Rattle.image_parts.specs.Slots.{Shows}
use Rattle.image_parts.specs.declared.control.Control.{Control}
use Rattle.image_parts.specs.declared.layout.Layout.{Layout}
use Rattle.image_parts.specs.declared.slot.Slot.{Slot}
use Rattle.store_image.specs.Sequences.{ShowsUpTo}
use Rattle.store_image.proofs.Sequences.{steady_up_to}
use Rattle.heap_model.specs.Past.{Past}
use Rattle.durable.specs.Calls.{ShowsAfterSome}
use Rattle.durable.specs.Store.{Known, HasPast}
use Rattle.durable.specs.declared.store_call.StoreCall.{StoreCall}
use Rattle.recover.specs.Recovery.{IsWorn, RefusesOf}
use Rattle.recover.specs.Study.{IsStudyOf}
use Rattle.recover_heap.specs.declared.error.RecoverError.{RecoverError}
use Rattle.recover_heap.specs.declared.error.RecoverError.TheVariants.{Worn}
use Rattle.recover.specs.declared.studied.Study.{Study}
use Rattle.recover.specs.declared.versions.Versions.{Versions}
use Rattle.recover.specs.declared.versions.Versions.TheVariants.{Current}
use Rattle.recover.proofs.RecoveryLemmas.{same_layout}
use Rattle.recover.proofs.SurvivalLemmas.{one_shown}
use Rattle.law_survival.specs.Again.{AreCutOff, Attempt, ByStore, HasStudyLaw, StudiedOnLaw, TriesTakeLaw}
use Rattle.law_survival.specs.Running.{UnwornLaw}
use Rattle.law_survival.specs.WholeRun.{MayBeLeft}
use Rattle.law_survival.proofs.RunAgain.{left_on}
use Rattle.law_survival.proofs.WholeRuns.{left_by, shows_some}

-- a worn image shows its last sequence
pub worn_up_to : (l : Layout) (last : ℕ) (image : List ℕ) → HasHeader image l → ShowsUpTo l last image → IsWorn image → 2 ^ 64 - 1 ≤ last
worn_up_to l last image header up worn =
    let layouts : worn.layout ≡ l = same_layout image worn.layout l worn.shown.front.layout.header header in
    let shown : Shows l image worn.slot worn.control = subst (λ (k : Layout). Shows k image worn.slot worn.control) layouts worn.shown.shows in
    let both : (let x : Slot × Control = (worn.slot, worn.control) in x ≡ (up.slot, up.control)) = one_shown l image worn.slot up.slot worn.control up.control shown up.shows in
    subst (λ (n : ℕ). n ≤ last) worn.last (subst (λ (x : Slot × Control). x.1.sequence ≤ last) (sym both) up.sequence)

-- what a crash leaves of a store that takes so many sequences at most
pub left_up_to : (s : Setting) (p : Past) (most : ℕ) (x : Known) (old new : Device) (image : List ℕ) → HasPast x s p old → x.has_failed ≡ false → LeavesOnly old new (ShowsUpTo x.layout (x.committed.sequence + most)) →
    MayBeLeft old new image → ShowsUpTo x.layout (x.committed.sequence + most) image
left_up_to s p most x old new image has serves leaves left =
    let last : ℕ = x.committed.sequence + most in
    left_on old new (ShowsUpTo x.layout last)
    (steady_up_to x.layout old x.committed.slot (control_of x.committed.sequence x.committed.rows) last (has.agrees serves).steady (omega arith)) leaves image left

pub unworn : UnwornLaw
unworn s p most old new before now image has serves takes left header worn =
    worn_up_to old.layout (old.committed.sequence + most) image header (left_up_to s p most old before now image has serves takes.shown left) worn

-- a study's control is the one that its image shows
studied_up_to : (l : Layout) (last : ℕ) (image : List ℕ) (study : Study) → IsStudyOf image study → HasHeader image l → ShowsUpTo l last image → study.control.sequence ≤ last
studied_up_to l last image study of header up =
    let layouts : study.layout ≡ l = same_layout image study.layout l of.holds.control.front.layout.header header in
    let shown : Shows l image study.slot study.control = subst (λ (k : Layout). Shows k image study.slot study.control) layouts of.holds.control.shows in
    let both : (let x : Slot × Control = (study.slot, study.control) in x ≡ (up.slot, up.control)) = one_shown l image study.slot up.slot study.control up.control shown up.shows in
    subst (λ (x : Slot × Control). x.1.sequence ≤ last) (sym both) up.sequence

-- what refuses the image as worn
refused_worn : {A E : Type 0} (v : Versions) (image : List ℕ) (P : Type 0) → (IsWorn image → P) → (answer : Result A (E × RecoverError)) → IfErr answer (λ back. RefusesOf v image back.1) → IfErr answer (λ back. back.1 ≡ Worn → P)
refused_worn v image P so (Ok r) refused = tt
refused_worn v image P so (Err back) refused = λ is. so (subst (λ (e : RecoverError). RefusesOf v image e) is refused).1

-- after so many tries of an image whose study is known
pub unworn_tries : {A E : Type 0} (v : Versions) (image last : List ℕ) (attempts : List Attempt) (first : Study) (most : ℕ) → StudiedOnLaw → TriesTakeLaw → IsStudyOf image first → AreCutOff attempts image last → first.control.sequence ≤ most →
    (answer : Result A (E × RecoverError)) → IfErr answer (λ back. RefusesOf v last back.1) → IfErr answer (λ back. back.1 ≡ Worn → 2 ^ 64 - 1 ≤ most + length attempts)
unworn_tries v image last attempts first most studied takes of tries le answer refused =
    let again = studied attempts image last first of tries in
    let low : again.0.control.sequence ≤ first.control.sequence + length attempts = takes attempts image last first again.0 of tries again.1 in
    refused_worn v last (2 ^ 64 - 1 ≤ most + length attempts)
    (worn_up_to again.0.layout (most + length attempts) last again.1.holds.control.front.layout.header
    (record { slot = again.0.slot; control = again.0.control; shows = again.1.holds.control.shows; sequence = omega (arith, low, le) })) answer refused

-- and after calls
pub unworn_calls : {A E : Type 0} (x : Known) (s : Setting) (p : Past) (calls : List StoreCall) (old new : Device) (image last : List ℕ) (attempts : List Attempt) → HasPast x s p old → x.has_failed ≡ false →
    HasStudyLaw → StudiedOnLaw → TriesTakeLaw → LeavesOnly old new (ShowsAfterSome x.layout s p calls) → LeavesOnly old new (ShowsUpTo x.layout (x.committed.sequence + length calls)) → MayBeLeft old new image → AreCutOff attempts image last →
    (answer : Result A (E × RecoverError)) → IfErr answer (λ back. RefusesOf Current last back.1) → IfErr answer (λ back. back.1 ≡ Worn → 2 ^ 64 - 1 ≤ x.committed.sequence + length calls + length attempts)
unworn_calls x s p calls old new image last attempts has serves has_study studied takes shown leaves left tries answer refused =
    let some = shows_some x s p calls old new image has shown left in
    let by = left_by x.layout s some.then some.doubt image some.is some.of_lanes some.shows in
    let first = has_study x.layout s by.past image (ByStore by.is) in
    let low : first.0.control.sequence ≤ x.committed.sequence + length calls =
    studied_up_to x.layout (x.committed.sequence + length calls) image first.0 first.1 by.is.shows.parts.header (left_up_to s p (length calls) x old new image has serves leaves left) in
    unworn_tries Current image last attempts first.0 (x.committed.sequence + length calls) studied takes first.1 tries low answer refused
