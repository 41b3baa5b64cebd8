use Rattle.law_histories.proofs.Own.{sent_grows}
use Rattle.law_histories.proofs.laws.sent_law.Goals as goal

pub returns : goal.returns
returns c g newer older = sent_grows g newer older
