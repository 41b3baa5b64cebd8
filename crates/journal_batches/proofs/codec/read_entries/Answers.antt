use Rattle.std.proofs.Common.{◌≡◌, ◌++◌, ◌∷◌, ◌∙◌, ◌<◌, ◌^◌, List, [], ap, sym, subst}
use Rattle.std.proofs.lemmas.List.Elements.{All-push}
use Rattle.journal_batches.specs.declared.entry.Entry.{Entry}
use Rattle.journal_batches.specs.Batches.{sectors_for}
use Rattle.journal_batches.specs.Spelled.{AreWords}
use Rattle.journal_batches.proofs.CodecLemmas.{read_more, room_for}
use Rattle.journal_batches.proofs.codec.read_entries.Goals as goal

pub loop-k-preserved : goal.loop-k-preserved
loop-k-preserved c =
    let half = c.args.half.now in
    let k = c.loop-k.k in
    let e : Entry = c.entry_at.result in
    let old : List Entry = c.loop-k.entries.items in
    let more : c.push.new.self.items ≡ old ++ e ∷ [] = c.in_ok-push.ensures.items in
    record {
      items = more ∙ ap (λ (es : List Entry). es ++ e ∷ []) c.loop-k.invariant.items
          ∙ sym (read_more (sectors_for c.args.count) k half e (room_for c.args.count k c.loop-k-test.true) c.entry_at.ensures.at c.entry_at.ensures.word);
      words = subst (λ (es : List Entry). AreWords es) (sym more)
          (All-push (λ (f : Entry). (f.at < 2 ^ 64) × (f.word < 2 ^ 64)) old e c.loop-k.invariant.words (c.entry_at.ensures.at_fits, c.entry_at.ensures.word_fits));
    }
