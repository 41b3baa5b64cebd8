-- What a crash leaves of rounds of two syncs shows a cut of a beginning of the log.
use Rattle.std.proofs.Common.{ℕ, ◌⊎◌, List, [], ◌++◌, refl, sym, ap, ◌∙◌, inl, inr, arith, append_assoc}
use Rattle.heap_model.specs.declared.cut.Cut.{Cut}
use Rattle.heap_model.specs.declared.record.Record.{Record}
use Rattle.heap_model.specs.declared.record.UndoRecord.{UndoRecord}
use Rattle.heap_model.specs.Cuts.{counts_of}
use Rattle.heap_model.specs.Setting.{Setting}
use Rattle.block_disk.specs.Device.{Device}
use Rattle.block_disk.specs.Images.{Always}
use Rattle.block_disk.proofs.Images.{weaker}
use Rattle.image_parts.specs.Control.{control_of}
use Rattle.image_parts.specs.declared.layout.Layout.{Layout}
use Rattle.store_image.specs.declared.committed.Committed.{Committed}
use Rattle.store_helper_sections.specs.HelperSections.{HelperSection}
use Rattle.store_helper_sections.specs.Image.{IsRoundOf, ShowsCutOf, ShowsRound}
use Rattle.store_round_image.specs.declared.cells.HomeValue.{HomeValue}
use Rattle.store_round_making.specs.Rounds.{IsRoundOn, MayMake}
use Rattle.store_round_making.specs.Showing.{ShownAfterLaw, ShownBetweenLaw, ShownMomentLaw, ShownOnLaw}

-- between rounds each image shows the acknowledged cut
pub shows_between : (l : Layout) (t : ℕ) (s : Setting) (log : List (ℕ × Record)) (cut : ℕ → ℕ) (sections : List HelperSection) (c : Committed) (d : Device) → IsRoundOn l t s log cut sections c d → Always d (ShowsRound l t s log cut sections)
shows_between l t s log cut sections c d on image left = record {
  heap = record {
    slot = c.slot;
    control = control_of c.sequence c.rows;
    shows = on.heap.steady.shows image left;
    current = refl;
    unsettled = on.heap.unsettled;
    parts = on.heap.parts image left;
  };
  kept = on.tells.kept;
}

-- the cut of a round is one of its own log
own_cut : (l : Layout) (t : ℕ) (s : Setting) (log : List (ℕ × Record)) (cut : ℕ → ℕ) (sections : List HelperSection) (image : List ℕ) → IsRoundOf l t s log cut sections → ShowsRound l t s log cut sections image → ShowsCutOf l t s log cut image
own_cut l t s log cut sections image is shows = record {
  later = [];
  shown = log;
  parts = refl;
  kept = cut;
  more = λ lane. omega arith;
  sections = sections;
  round = is;
  shows = shows;
}

pub between : ShownBetweenLaw
between l t s log cut sections c d on image left = own_cut l t s log cut sections image on.round (shows_between l t s log cut sections c d on image left)

pub shown_on : ShownOnLaw
shown_on l t s log newer cut earlier image less shows = record {
  later = newer ++ shows.later;
  shown = shows.shown;
  parts = ap (λ (xs : List (ℕ × Record)). newer ++ xs) shows.parts ∙ sym (append_assoc newer shows.later shows.shown);
  kept = shows.kept;
  more = λ lane. omega (arith, less lane, shows.more lane);
  sections = shows.sections;
  round = shows.round;
  shows = shows.shows;
}

module _ (l : Layout) (t : ℕ) (s : Setting) (log : List (ℕ × Record)) (cut : ℕ → ℕ) (sections : List HelperSection) (newer : List (ℕ × Record)) (later : List HelperSection)
    (c : Committed) (d : Device) (next : Cut) (places : List ℕ) (cells : List HomeValue) (fresh : ℕ → List UndoRecord) (helper : List UndoRecord)
    (may : MayMake l t s log cut sections newer later c d next places cells fresh helper) where
  -- a round leads to a round
  pub next_round : IsRoundOf l t s (newer ++ log) (counts_of next) later
  next_round = record { legal = may.legal; whole = may.whole; closed = may.closed; lanes = may.lanes; within = may.on.round.within; helper = may.helper_lane; preceding = may.preceding }

  abbrev Either : List ℕ → Type 0
  Either image = ShowsRound l t s log cut sections image ⊎ ShowsRound l t s (newer ++ log) (counts_of next) later image

  either_cut : (image : List ℕ) → Either image → ShowsCutOf l t s (newer ++ log) cut image
  either_cut image (inl old) = shown_on l t s log newer cut cut image (λ lane. omega arith) (own_cut l t s log cut sections image may.on.round old)
  either_cut image (inr new) = shown_on l t s (newer ++ log) [] (counts_of next) cut image may.more (own_cut l t s (newer ++ log) (counts_of next) later image next_round new)

pub moment : ShownMomentLaw
moment l t s log cut sections newer later c d next places cells fresh helper new may shows =
    weaker d new (Either l t s log cut sections newer later c d next places cells fresh helper may) (ShowsCutOf l t s (newer ++ log) cut)
    (either_cut l t s log cut sections newer later c d next places cells fresh helper may) (shows s log cut sections newer later may)

pub after : ShownAfterLaw
after l t s log cut sections newer later c d next places cells fresh helper new may keeps image left =
    either_cut l t s log cut sections newer later c d next places cells fresh helper may image (keeps s log cut sections newer later may image left)
