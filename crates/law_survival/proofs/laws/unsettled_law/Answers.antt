use Rattle.law_survival.proofs.Unsettled.{unsettled}
use Rattle.law_survival.proofs.laws.unsettled_law.Goals as goal

pub returns : goal.returns
returns c = unsettled
