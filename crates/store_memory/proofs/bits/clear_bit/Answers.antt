use Rattle.store_memory.proofs.BitLaws.{clear_is}
use Rattle.store_memory.proofs.bits.clear_bit.Goals as goal

pub returns-clause-bits : goal.returns-clause-bits
returns-clause-bits c = clear_is c.args.words.now c.args.at c.requires
