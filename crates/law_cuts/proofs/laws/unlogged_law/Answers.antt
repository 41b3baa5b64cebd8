use Rattle.law_cuts.proofs.Unlogged.{first_stays, first_kept}
use Rattle.law_cuts.proofs.laws.unlogged_law.Goals as goal

pub returns : goal.returns
returns c s log f legal not = (first_stays s log f legal not, first_kept s log f legal not)
