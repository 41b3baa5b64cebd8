use Rattle.journal_batches.proofs.ClearLemmas.{brought, home_left}
use Rattle.journal_batches.proofs.clear_laws.home_law.Goals as goal

pub returns-clause-left : goal.returns-clause-left
returns-clause-left c = home_left

pub returns-clause-brought : goal.returns-clause-brought
returns-clause-brought c = brought
