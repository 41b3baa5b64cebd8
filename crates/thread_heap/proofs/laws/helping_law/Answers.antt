use Rattle.thread_heap.proofs.Keeping.{drains_on, goes_on}
use Rattle.thread_heap.proofs.laws.helping_law.Goals as goal

pub returns-clause-round : goal.returns-clause-round
returns-clause-round g c h p x y answer was on round = goes_on g.D.Disk.device h p x y answer was on round

pub returns-clause-drain : goal.returns-clause-drain
returns-clause-drain g c h x y n was seat drained quiet = drains_on g.D.Disk.device h x y n was seat drained quiet
