use Rattle.std.proofs.Common.{arith}
use Rattle.store_memory.proofs.BitLaws.{lowest_is}
use Rattle.store_memory.proofs.bits.lowest_in.Goals as goal

pub returns : goal.returns
returns c = lowest_is c.args.words.now c.args.word c.requires.some (omega (arith, c.type_inv.words c.args.word))
