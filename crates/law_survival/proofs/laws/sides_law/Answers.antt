use Rattle.law_survival.proofs.SideLemmas.{sides}
use Rattle.law_survival.proofs.laws.sides_law.Goals as goal

pub returns : goal.returns
returns c = sides
