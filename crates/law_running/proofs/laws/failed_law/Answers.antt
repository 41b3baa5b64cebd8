use Rattle.law_running.proofs.Faults.{failed_close_kept, runs_on_failed}
use Rattle.law_running.proofs.laws.failed_law.Goals as goal

pub returns-clause-rounds : goal.returns-clause-rounds
returns-clause-rounds g c = runs_on_failed g.D.Disk.device c.life_law.ensures.failed

pub returns-clause-closing : goal.returns-clause-closing
returns-clause-closing g c = failed_close_kept g.D.Disk.device c.round_law.ensures.run
