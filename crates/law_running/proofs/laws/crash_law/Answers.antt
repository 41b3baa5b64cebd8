use Rattle.law_running.proofs.Kept.{kept}
use Rattle.law_running.proofs.laws.crash_law.Goals as goal

pub returns : goal.returns
returns g c = kept g.D.Disk.device c.life_law.ensures.closed c.round_run_law.ensures.history
