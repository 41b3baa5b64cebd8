use Rattle.std.proofs.Common.{arith}
use Rattle.journal_batches.proofs.MixLemmas.{home_between, page_between}
use Rattle.journal_batches.proofs.mix_laws.write_law.Goals as goal

pub returns-clause-half : goal.returns-clause-half
returns-clause-half c a old new image page size low fits between = page_between a old new image page size (omega arith) between

pub returns-clause-home : goal.returns-clause-home
returns-clause-home c = home_between
