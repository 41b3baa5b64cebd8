use Rattle.law_survival.proofs.Studies.{study_there}
use Rattle.law_survival.proofs.laws.has_study_law.Goals as goal

pub returns : goal.returns
returns c = study_there
