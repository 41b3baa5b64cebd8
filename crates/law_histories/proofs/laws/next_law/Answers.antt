use Rattle.law_histories.proofs.NextStore.{next_legal}
use Rattle.law_histories.proofs.laws.next_law.Goals as goal

pub returns : goal.returns
returns c s newer older applied l r legal legal_applied below above at = next_legal s newer older applied l r legal legal_applied below above at
