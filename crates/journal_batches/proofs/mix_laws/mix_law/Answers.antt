use Rattle.journal_batches.proofs.MixLemmas.{mixed, old_between}
use Rattle.journal_batches.proofs.mix_laws.mix_law.Goals as goal

pub returns-clause-mix : goal.returns-clause-mix
returns-clause-mix c = mixed

pub returns-clause-old : goal.returns-clause-old
returns-clause-old c = old_between
