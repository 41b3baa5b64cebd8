use Rattle.law_cuts.proofs.Existence.{stable_exists, stable_once}
use Rattle.law_cuts.proofs.laws.stable_law.Goals as goal

pub returns-clause-exists : goal.returns-clause-exists
returns-clause-exists c log = stable_exists log

pub returns-clause-one : goal.returns-clause-one
returns-clause-one c log a b stable_a stable_b l = stable_once log a b stable_a stable_b l
