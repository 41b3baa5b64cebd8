use Rattle.recover.proofs.StudyLimits.{fits_of, limits_of}
use Rattle.recover.proofs.laws.study_law.Goals as goal

pub returns-clause-limits : goal.returns-clause-limits
returns-clause-limits c = limits_of

pub returns-clause-numbers : goal.returns-clause-numbers
returns-clause-numbers c = fits_of
