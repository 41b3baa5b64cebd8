use Rattle.store_rounds.proofs.Running.{apply_runs}
use Rattle.store_rounds.proofs.laws.apply_run_law.Goals as goal

pub returns : goal.returns
returns g c = λ x y lane next result makes. apply_runs g.D.Disk.device x y lane next result makes
