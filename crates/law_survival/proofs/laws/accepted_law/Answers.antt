use Rattle.std.proofs.Common.{refl}
use Rattle.durable.proofs.Running.{left_always}
use Rattle.law_survival.proofs.Accepts.{accepted, isnt_old, of_today}
use Rattle.law_survival.proofs.laws.accepted_law.Goals as goal

pub returns-clause-left : goal.returns-clause-left
returns-clause-left c = left_always

pub returns-clause-accepted : goal.returns-clause-accepted
returns-clause-accepted c = λ l s p image e left refuses. accepted l s p image (of_today l s p image left) e refuses

pub returns-clause-current : goal.returns-clause-current
returns-clause-current c = λ l s p image left. isnt_old l s p image (of_today l s p image left) refl
