use Rattle.std.proofs.Common.{refl}
use Rattle.journal_batches.proofs.CodecLemmas.{sector_put}
use Rattle.journal_batches.proofs.codec.spell_sector.Goals as goal

pub returns : goal.returns
returns c =
    sector_put c.args.stamp c.args.count c.args.entries.now c.args.out.now c.put_two.new.out c.spell_entries.new.out c.requires c.put_two.ensures _ refl c.spell_entries.ensures
