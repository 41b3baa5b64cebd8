use Rattle.journal_batches.proofs.TurnLemmas.{rests}
use Rattle.journal_batches.proofs.turn_laws.rests_law.Goals as goal

pub returns : goal.returns
returns c = rests
