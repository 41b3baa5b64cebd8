use Rattle.recover.proofs.SurvivalLemmas.{transient_first}
use Rattle.recover.proofs.laws.transient_law.Goals as goal

pub returns : goal.returns
returns c = transient_first
