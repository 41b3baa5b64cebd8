use Rattle.recover.proofs.RecoveryLemmas.{one_study}
use Rattle.recover.proofs.laws.one_study_law.Goals as goal

pub returns : goal.returns
returns c = one_study
