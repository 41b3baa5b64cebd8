use Rattle.law_rounds.proofs.WorkedRounds.{worked}
use Rattle.law_rounds.proofs.laws.worked_round_law.Goals as goal

pub returns : goal.returns
returns c = worked
