-- Each batch that is complete is the old one or the new one.
use Rattle.journal_batches.proofs.HalfLemmas.{half_holds}
use Rattle.journal_batches.proofs.half_laws.half_law.Goals as goal

pub returns : goal.returns
returns c = half_holds
