use Rattle.image.proofs.Commits.{steady_now, steady_stays}
use Rattle.image.proofs.laws.steady_law.Goals as goal

pub returns-clause-now : goal.returns-clause-now
returns-clause-now c = steady_now

pub returns-clause-stays : goal.returns-clause-stays
returns-clause-stays c = steady_stays
