use Rattle.store_round_making.proofs.Covering.{acknowledges, homes, logs}
use Rattle.store_round_making.proofs.turns.turns_law.Goals as goal

pub returns-clause-homes : goal.returns-clause-homes
returns-clause-homes c = homes

pub returns-clause-logging : goal.returns-clause-logging
returns-clause-logging c = logs

pub returns-clause-acknowledging : goal.returns-clause-acknowledging
returns-clause-acknowledging c = acknowledges
