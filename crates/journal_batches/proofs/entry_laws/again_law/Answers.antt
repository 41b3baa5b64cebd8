use Rattle.journal_batches.specs.Entries.{replayed}
use Rattle.journal_batches.proofs.EntryLemmas.{again, replayed_twice}
use Rattle.journal_batches.proofs.entry_laws.again_law.Goals as goal

pub returns-clause-again : goal.returns-clause-again
returns-clause-again c = again

pub returns-clause-alone : goal.returns-clause-alone
returns-clause-alone c first second old = replayed_twice second (replayed first old)
