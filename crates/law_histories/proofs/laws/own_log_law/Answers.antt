use Rattle.law_histories.proofs.OwnLog.{own_log_is}
use Rattle.law_histories.proofs.laws.own_log_law.Goals as goal

pub returns : goal.returns
returns c g history t = own_log_is g history t
