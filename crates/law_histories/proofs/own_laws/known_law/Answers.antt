use Rattle.law_histories.proofs.Known.{known}
use Rattle.law_histories.proofs.own_laws.known_law.Goals as goal

pub returns : goal.returns
returns c g history t f v legal is = known g history t f legal v is
