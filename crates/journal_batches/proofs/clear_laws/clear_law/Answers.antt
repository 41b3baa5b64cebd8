use Rattle.journal_batches.proofs.ClearLemmas.{clear, cleared}
use Rattle.journal_batches.proofs.clear_laws.clear_law.Goals as goal

pub returns-clause-left : goal.returns-clause-left
returns-clause-left c = clear

pub returns-clause-cleared : goal.returns-clause-cleared
returns-clause-cleared c = cleared
