use Rattle.std.proofs.Common.{sym}
use Rattle.law_histories.proofs.Logged.{holder_log, number_log, value_log, waits_log}
use Rattle.law_histories.proofs.laws.state_law.Goals as goal

pub returns : goal.returns
returns c g history legal = record {
  owners = λ o. sym (holder_log g history o);
  numbers = λ o. sym (number_log g history o);
  values = λ f is. sym (value_log g history f is);
  waits = λ t. sym (waits_log g history t legal);
}
