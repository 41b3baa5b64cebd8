use Rattle.std.proofs.Common.{refl}
use Rattle.recover_logs.proofs.MonitorLemmas.{none_held}
use Rattle.recover_logs.proofs.monitors.Monitors.free_at.Goals as goal

pub returns-clause-free : goal.returns-clause-free
returns-clause-free c = record { holders = λ o lt. none_held o; numbers = λ o lt. refl }

pub returns-clause-numbers : goal.returns-clause-numbers
returns-clause-numbers c = refl
