use Rattle.law_survival.proofs.Upgrades.{old_history}
use Rattle.law_survival.proofs.laws.old_history_law.Goals as goal

pub returns : goal.returns
returns c = old_history c.log_law.ensures c.order_law.ensures
