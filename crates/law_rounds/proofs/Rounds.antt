-- So it is with an image over a round of two syncs.
use Rattle.std.proofs.Common.{◌⊎◌, ◌++◌, ◌∙◌, inl, inr}
use Rattle.heap_model.specs.Cuts.{counts_of}
use Rattle.block_disk.proofs.Images.{weaker}
use Rattle.undo_log.specs.StandsFor.{row_of}
use Rattle.store_helper_sections.specs.Going.{GoesOn, from_heap}
use Rattle.store_helper_sections.specs.Image.{ShowsRound, kept_by, round_records}
use Rattle.store_helper_sections.proofs.Preceding.{precede}
use Rattle.store_round_making.proofs.Shown.{next_round, shows_between}
use Rattle.law_survival.specs.Again.{ByRecovery}
use Rattle.law_rounds.specs.Laws.{BetweenLaw, Gives, GivesCut, HeapLaw, MomentLaw, RoundAgainLaw, RoundLaw}

pub round_gives : HeapLaw → RoundLaw
round_gives gives l t s log cut sections image is shown =
    let going : GoesOn (from_heap s (kept_by s log cut)) (round_records t s log cut sections) = precede s log cut t sections is.legal is.whole is.closed is.lanes is.preceding in
    let given : Gives l (kept_by s log cut) (λ lane. (row_of shown.heap.control.rows lane).kept) image = gives l (from_heap s (kept_by s log cut)) (round_records t s log cut sections) image going shown.heap in
    record {
      accepted = given.accepted;
      heap_is = given.heap_is;
      kept_are = λ lane low. given.kept_are lane low ∙ shown.kept lane low;
    }

pub round_kept : RoundLaw → RoundAgainLaw
round_kept gives l t s log cut sections image is shown =
    let given : Gives l (kept_by s log cut) cut image = gives l t s log cut sections image is shown in
    ByRecovery given.accepted.study given.accepted.of given.heap_is (inl given.kept_are)

pub gives_between : RoundLaw → BetweenLaw
gives_between gives l t s log cut sections c d on image left = gives l t s log cut sections image on.round (shows_between l t s log cut sections c d on image left)

pub gives_moment : RoundLaw → MomentLaw
gives_moment gives l t s log cut sections newer later c d next places cells fresh helper new may shows =
    weaker d new (λ image. ShowsRound l t s log cut sections image ⊎ ShowsRound l t s (newer ++ log) (counts_of next) later image)
    (λ image. GivesCut l s log cut image ⊎ GivesCut l s (newer ++ log) (counts_of next) image)
    (λ image either. elim either [
      | inl old ↦ inl (gives l t s log cut sections image may.on.round old)
      | inr now ↦ inr (gives l t s (newer ++ log) (counts_of next) later image (next_round l t s log cut sections newer later c d next places cells fresh helper may) now)
    ])
    (shows s log cut sections newer later may)
