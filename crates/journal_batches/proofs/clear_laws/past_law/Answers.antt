use Rattle.journal_batches.proofs.ClearLemmas.{passed, past}
use Rattle.journal_batches.proofs.clear_laws.past_law.Goals as goal

pub returns-clause-left : goal.returns-clause-left
returns-clause-left c = past

pub returns-clause-passed : goal.returns-clause-passed
returns-clause-passed c = passed
