use Rattle.std.proofs.Common.{◌≤◌, ◌∙◌, inr, sym, ap, subst, List, ℕ, refl, length, arith}
use Rattle.journal_batches.specs.Entries.{AreOf, DifferWithin}
use Rattle.journal_batches.specs.Shown.{is_second_newest, under_both}
use Rattle.disk_journal.specs.Opened.{HasNoWords, batch_bytes, batch_of_found}
use Rattle.disk_journal.proofs.OpeningLemmas.{found_held, held_fits, later_stamp, latest_held, length_under, stamp_held, stamps_up}
use Rattle.disk_journal.proofs.opening.choose.Goals as goal

pub returns-then-top-ge-WORN-clause-err : goal.returns-then-top-ge-WORN-clause-err
returns-then-top-ge-WORN-clause-err c =
    let n = c.requires.first in
    let long : 512 ≤ length c.args.halves.now.first.items = omega (arith, n.1, n.2) in
    let long' : 512 ≤ length c.args.halves.now.second.items = omega (arith, long, c.requires.second) in
    let late = later_stamp c.args.halves.now.first.items c.args.halves.now.second.items c.latest_stamp.result c.latest_stamp-2.result c.max-top.result
    c.max-top.ensures
    (stamp_held c.deref.ensures.value c.latest_stamp.ensures.one long) (stamp_held c.deref-2.ensures.value c.latest_stamp-2.ensures.one long')
    c.if-top-ge-WORN.true in
    inr (refl, late.0, late.1, late.2)

pub words_of-requires : goal.words_of-requires
words_of-requires c =
    let same = ap length (c.deref-3.ensures.value ∙ c.replay_both.ensures)
    ∙ length_under (batch_of_found c.in-Ok.batches.first) (batch_of_found c.in-Ok.batches.second) c.args.image.now.items in
    omega (arith, same, c.requires.image)

pub returns-clause-ok : goal.returns-clause-ok
returns-clause-ok c =
    let n = c.requires.first in
    let one = c.in-Ok.ensures.first in
    let two = c.in-Ok.ensures.second in
    let held = ap batch_of_found c.batch_held-newest.ensures ∙ found_held c.args.halves.now c.in-Ok.batches one two c.is_second-second.result in
    record {
      newest = c.is_second-second.ensures ∙ (λ i. is_second_newest (one i) (two i));
      pages = c.pages_in.ensures.is ∙ ap batch_bytes held;
      fits =
          let few = held_fits c.args.halves.now c.in-Ok.batches n.0 c.pages_in.result one two n.1 (c.requires.second ∙ n.1) c.is_second-second.result
          c.batch_held-newest.result.now c.batch_held-newest.ensures c.pages_in.ensures.fits in
          omega (arith, few, n.1);
      empty = λ none. c.has_no_words.ensures (subst HasNoWords (sym held) none);
      first = stamps_up c.max-top.result c.deref.ensures.value (omega (arith, c.max-top.ensures)) c.latest_stamp.ensures.most;
      second = stamps_up c.max-top.result c.deref-2.ensures.value (omega (arith, c.max-top.ensures)) c.latest_stamp-2.ensures.most;
      top = omega (arith, c.if-top-ge-WORN.false);
      image = c.replay_both.ensures ∙ (λ i. under_both (one i) (two i) c.args.image.now.items);
      own = subst (λ (xs : List ℕ). AreOf xs c.in-Ok-words_of.entries.items) c.deref-3.ensures.value c.in-Ok-words_of.ensures.own;
      places = c.in-Ok-words_of.ensures.places;
      rest = subst (λ (xs : List ℕ). DifferWithin c.in-Ok-words_of.entries.items c.args.image.now.items xs) c.deref-3.ensures.value
          (c.in-Ok-words_of.ensures.all c.args.image.now.items (c.deref-3.ensures.value ∙ c.replay_both.ensures));
    }

pub returns-clause-one : goal.returns-clause-one
returns-clause-one c =
    let n = c.requires.first in
    let long : 512 ≤ length c.args.halves.now.first.items = omega (arith, n.1, n.2) in
    let long' : 512 ≤ length c.args.halves.now.second.items = omega (arith, long, c.requires.second) in
    latest_held c.args.halves.now.first.items c.args.halves.now.second.items c.latest_stamp.result c.latest_stamp-2.result c.max-top.result
    c.max-top.ensures
    (stamp_held c.deref.ensures.value c.latest_stamp.ensures.one long) (stamp_held c.deref-2.ensures.value c.latest_stamp-2.ensures.one long')
