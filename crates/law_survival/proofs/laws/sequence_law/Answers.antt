use Rattle.durable.proofs.Sequences.{takes_then}
use Rattle.law_survival.proofs.Unworn.{unworn}
use Rattle.law_survival.proofs.laws.sequence_law.Goals as goal

pub returns-clause-on : goal.returns-clause-on
returns-clause-on c = takes_then

pub returns-clause-unworn : goal.returns-clause-unworn
returns-clause-unworn c = unworn
