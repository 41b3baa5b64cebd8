use Rattle.law_survival.proofs.Histories.{of_history}
use Rattle.law_survival.proofs.laws.history_law.Goals as goal

pub returns : goal.returns
returns c = of_history c.log_law.ensures c.order_law.ensures
