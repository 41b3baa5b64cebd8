use Rattle.thread_heap.proofs.Keeping.{over_call, over_ended, over_rings, over_wait}
use Rattle.thread_heap.proofs.laws.joined_law.Goals as goal

pub returns-clause-call : goal.returns-clause-call
returns-clause-call c h k rings x y joined of same = over_call h k rings x y joined of same

pub returns-clause-wait : goal.returns-clause-wait
returns-clause-wait c x w y begun back = over_wait x w y begun back

pub returns-clause-rings : goal.returns-clause-rings
returns-clause-rings c h k rings later x joined same = over_rings h k rings later x joined same

pub returns-clause-ended : goal.returns-clause-ended
returns-clause-ended c h k rings later e ended same = over_ended h k rings later e ended same
