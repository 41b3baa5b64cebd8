use Rattle.journal_batches.proofs.CodecLemmas.{zeros_put}
use Rattle.journal_batches.proofs.codec.spell_entries.Goals as goal

pub returns : goal.returns
returns c =
    zeros_put c.args.entries.now c.args.out.now c.put_entries.new.out c.fill.new.self c.min-here.result c.min-here.ensures c.put_entries.ensures
    (c.fill.ensures.after (λ y is. is))
