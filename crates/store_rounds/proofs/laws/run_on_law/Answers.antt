use Rattle.store_rounds.proofs.Running.{run_none, run_on}
use Rattle.store_rounds.proofs.laws.run_on_law.Goals as goal

pub returns-clause-none : goal.returns-clause-none
returns-clause-none c = run_none

pub returns-clause-on : goal.returns-clause-on
returns-clause-on c = run_on
