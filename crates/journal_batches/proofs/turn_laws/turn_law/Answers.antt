use Rattle.journal_batches.proofs.TurnLemmas.{turn, turned_rests}
use Rattle.journal_batches.proofs.turn_laws.turn_law.Goals as goal

pub returns-clause-left : goal.returns-clause-left
returns-clause-left c = turn

pub returns-clause-turned : goal.returns-clause-turned
returns-clause-turned c = turned_rests
