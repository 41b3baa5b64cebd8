use Rattle.law_histories.proofs.Logged.{log_legal}
use Rattle.law_histories.proofs.laws.log_law.Goals as goal

pub returns : goal.returns
returns c s history legal = log_legal s history legal
