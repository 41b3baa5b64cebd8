use Rattle.law_survival.proofs.RunAgain.{current_on, kept_accepted, kept_again, kept_is_found, kept_on, kept_report, studied_on, tried_law, tries_take}
use Rattle.law_survival.proofs.laws.again_law.Goals as goal

pub returns-clause-heap : goal.returns-clause-heap
returns-clause-heap c = kept_is_found c.one_study_law.ensures

pub returns-clause-report : goal.returns-clause-report
returns-clause-report c = kept_report c.one_study_law.ensures

pub returns-clause-accepted : goal.returns-clause-accepted
returns-clause-accepted c = kept_accepted c.studied_law.ensures

pub returns-clause-again : goal.returns-clause-again
returns-clause-again c = kept_again c.one_study_law.ensures

pub returns-clause-on : goal.returns-clause-on
returns-clause-on c = kept_on c.one_study_law.ensures

pub returns-clause-current : goal.returns-clause-current
returns-clause-current c = current_on c.one_study_law.ensures

pub returns-clause-tried : goal.returns-clause-tried
returns-clause-tried c = tried_law c.one_study_law.ensures

pub returns-clause-studied : goal.returns-clause-studied
returns-clause-studied c = studied_on c.one_study_law.ensures

pub returns-clause-sequences : goal.returns-clause-sequences
returns-clause-sequences c = tries_take c.one_study_law.ensures
