use Rattle.thread_heap.proofs.Failing.{failed_on}
use Rattle.thread_heap.proofs.Living.{begins, lives_closed, lives_drained, lives_on}
use Rattle.thread_heap.proofs.laws.life_law.Goals as goal

pub returns-clause-begins : goal.returns-clause-begins
returns-clause-begins g c h x lanes serving running = begins g.D.Disk.device h x lanes serving running

pub returns-clause-round : goal.returns-clause-round
returns-clause-round g c h opened p x y answer was on round running = lives_on g.D.Disk.device h opened p x y answer was on round running

pub returns-clause-drain : goal.returns-clause-drain
returns-clause-drain g c h opened x y p n was seat drained quiet = lives_drained g.D.Disk.device h opened x y p n was seat drained quiet

pub returns-clause-failed : goal.returns-clause-failed
returns-clause-failed g c h p x y answer was on round off = failed_on g.D.Disk.device h p x y answer was on round off

pub returns-clause-closed : goal.returns-clause-closed
returns-clause-closed g c h opened d x p ended was from = lives_closed g.D.Disk.device h opened d x p ended was from
