use Rattle.std.proofs.Common.{arith}
use Rattle.journal_batches.proofs.CodecLemmas.{sectors_put}
use Rattle.journal_batches.proofs.codec.spell_sectors.Goals as goal

pub loop-i-preserved : goal.loop-i-preserved
loop-i-preserved c =
    sectors_put c.args.stamp c.args.count c.args.entries.now c.loop-i.out c.spell_sector.new.out c.args.n c.loop-i.i _ c.min-first.result c.loop-i-test.true (omega arith)
    c.loop-i.invariant c.min-first.ensures c.spell_sector.ensures
