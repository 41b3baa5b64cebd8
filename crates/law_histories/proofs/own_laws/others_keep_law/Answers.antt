use Rattle.law_histories.proofs.Others.{keeps}
use Rattle.law_histories.proofs.own_laws.others_keep_law.Goals as goal

pub returns : goal.returns
returns c g s t u e may ne = keeps g s t u e may ne
