use Rattle.monitor.proofs.Spread.{apart_law}
use Rattle.monitor.proofs.laws.apart_law.Goals as goal

pub returns : goal.returns
returns c = apart_law
