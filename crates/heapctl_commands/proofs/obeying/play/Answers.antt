use Rattle.std.proofs.Common.{refl}
use Rattle.heapctl_commands.proofs.obeying.play.Goals as goal

pub returns-in-Some-clause-ends : goal.returns-in-Some-clause-ends
returns-in-Some-clause-ends g c = rw c.in-Some.is (c.run_at.result, c.on_run.ensures, c.run_at.ensures.ends)

pub returns-in-Some-clause-beside : goal.returns-in-Some-clause-beside
returns-in-Some-clause-beside g c = rw c.in-Some.is c.run_at.ensures.beside

pub returns-in-None-clause-ends : goal.returns-in-None-clause-ends
returns-in-None-clause-ends g c = rw c.in-None.is c.play_in_memory.ensures

pub returns-in-None-clause-beside : goal.returns-in-None-clause-beside
returns-in-None-clause-beside g c = rw c.in-None.is (record { there = λ path. refl; lies_so = λ path. refl })
