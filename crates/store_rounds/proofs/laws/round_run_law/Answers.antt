use Rattle.store_rounds.proofs.Running.{round_runs}
use Rattle.store_rounds.proofs.laws.round_run_law.Goals as goal

pub returns : goal.returns
returns g c = λ x y result makes. round_runs g.D.Disk.device x y result makes
