use Rattle.std.proofs.Common.{◌<◌, ◌≤◌, ◌+◌, arith, ◌∙◌, refl, subst, below_more}
use Rattle.std.proofs.lemmas.List.{get_or_default}
use Rattle.journal_batches.specs.declared.entry.Entry.{Entry}
use Rattle.disk_journal.specs.Kept.{Touches}
use Rattle.disk_journal.proofs.opening.note_words.Goals as goal

pub loop-entry-preserved : goal.loop-entry-preserved
loop-entry-preserved c = record {
  within = c.note_word.ensures.within;
  kept = λ i was. c.if-not-note_word.ensures.kept refl i (c.loop-entry.invariant.kept i was);
  all = below_more _ _ (λ k low e is i fits from within. c.if-not-note_word.ensures.kept refl i (c.loop-entry.invariant.all k low e is i fits from within))
      (λ e is i fits from within.
      subst (λ (x : Entry). x.at + 8 ≤ c.args.size → x.at ≤ i → i < x.at + 8 → Touches c.note_word.new.places.items i)
      (get_or_default c.args.entries.now c.loop-entry.entry-index (record { at = 0; word = 0 }) e c.loop-entry-test.true ∙ is)
      (c.if-not-note_word.ensures.all refl i) fits from within);
}

pub returns-clause-all : goal.returns-clause-all
returns-clause-all c = λ noted i lies.
    c.loop-entry.invariant.all lies.0 (omega (arith, lies.2, c.loop-entry-test.false)) lies.1 lies.3 i lies.4.0 lies.4.1 lies.4.2
