use Rattle.store_memory.proofs.BitLaws.{set_is}
use Rattle.store_memory.proofs.bits.set_bit.Goals as goal

pub returns-clause-bits : goal.returns-clause-bits
returns-clause-bits c = set_is c.args.words.now c.args.at c.requires
