use Rattle.store_rounds.proofs.Running.{flush_runs}
use Rattle.store_rounds.proofs.laws.flush_run_law.Goals as goal

pub returns : goal.returns
returns g c = λ x y result makes. flush_runs g.D.Disk.device x y result makes
