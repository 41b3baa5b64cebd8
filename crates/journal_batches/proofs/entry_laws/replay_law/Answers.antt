use Rattle.journal_batches.proofs.EntryLemmas.{replay}
use Rattle.journal_batches.proofs.entry_laws.replay_law.Goals as goal

pub returns : goal.returns
returns c = replay
