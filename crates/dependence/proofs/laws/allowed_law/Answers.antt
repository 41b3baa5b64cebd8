use Rattle.dependence.proofs.Legal.{allowed_next}
use Rattle.dependence.proofs.laws.allowed_law.Goals as goal

pub returns : goal.returns
returns c = allowed_next
