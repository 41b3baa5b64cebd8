use Rattle.law_cuts.proofs.Stays.{cut_stays}
use Rattle.law_cuts.proofs.laws.stay_law.Goals as goal

pub returns : goal.returns
returns c s newer log cut legal whole closed = cut_stays s newer log cut legal whole closed
