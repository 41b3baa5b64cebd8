use Rattle.std.proofs.Common.{◌≡◌, ◌+◌, ◌-◌, ◌≤◌, List, length, get_or, take, ap, ◌∙◌, arith}
use Rattle.std.proofs.lemmas.List.{take_all}
use Rattle.std.specs.Int.{to_be_bytes, w64}
use Rattle.block_disk.specs.Bytes.{part, spliced}
use Rattle.block_disk.proofs.Bytes.{length_spliced}
use Rattle.journal_batches.specs.declared.entry.Entry.{Entry}
use Rattle.journal_batches.specs.Entries.{replayed}
use Rattle.disk_journal.proofs.PageLemmas.{word_more}
use Rattle.disk_journal.proofs.pages.put_words.Goals as goal

pub loop-entry-preserved : goal.loop-entry-preserved
loop-entry-preserved c =
    let none : Entry = record { at = 0; word = 0 } in
    let e : Entry = get_or c.args.run.now c.loop-entry.entry-index none in
    let word : c.to_be_bytes.result ≡ to_be_bytes w64 e.word = c.to_be_bytes.ensures in
    let long : length c.to_be_bytes.result ≡ 8 = ap length word in
    let lies : (c.args.from ≤ e.at) × (e.at + 8 ≤ c.args.from + length c.args.out.now) = c.requires.within c.loop-entry.entry-index none c.loop-entry-test.true in record {
      size = ap length c.overwrite.ensures ∙ length_spliced c.loop-entry.out c.to_be_bytes.result (e.at - c.args.from) (omega arith) ∙ c.loop-entry.invariant.size;
      put = λ image fits is.
          c.overwrite.ensures ∙ ap (spliced c.loop-entry.out (e.at - c.args.from)) word
          ∙ word_more c.args.run.now c.loop-entry.entry-index c.args.from (length c.args.out.now) none image c.loop-entry.out c.loop-entry-test.true lies.0 lies.1 fits
          (c.loop-entry.invariant.put image fits is);
    }

pub returns : goal.returns
returns c = λ image fits is.
    let all : take c.loop-entry.entry-index c.args.run.now ≡ c.args.run.now = take_all c.loop-entry.entry-index c.args.run.now (omega arith) in
    c.loop-entry.invariant.put image fits is
    ∙ ap (λ (es : List Entry). part c.args.from (length c.args.out.now) (replayed es image)) all
