use Rattle.law_survival.proofs.Running.{keeps_run}
use Rattle.law_survival.proofs.laws.run_law.Goals as goal

pub returns : goal.returns
returns c = keeps_run c.log_law.ensures c.order_law.ensures c.has_study_law.ensures
