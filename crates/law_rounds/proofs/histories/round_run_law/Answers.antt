use Rattle.law_rounds.proofs.ShownCuts.{keeps_each, keeps_one}
use Rattle.law_rounds.proofs.histories.round_run_law.Goals as goal

pub returns-clause-each : goal.returns-clause-each
returns-clause-each c = keeps_each c.log_law.ensures c.order_law.ensures c.two_syncs_law.ensures

pub returns-clause-history : goal.returns-clause-history
returns-clause-history c = keeps_one (keeps_each c.log_law.ensures c.order_law.ensures c.two_syncs_law.ensures)
