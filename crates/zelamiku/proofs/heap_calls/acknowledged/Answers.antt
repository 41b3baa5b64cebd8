use Rattle.std.proofs.Common.{refl}
use Rattle.zelamiku.proofs.heap_calls.acknowledged.Goals as goal

pub returns-in-Ok-clause-told : goal.returns-in-Ok-clause-told
returns-in-Ok-clause-told c = rw c.in-Heap.is (c.acknowledged_of.new.heap, c.acknowledged_of.result, c.acknowledged_of.ensures, rw c.in-Ok.is (refl, refl), refl)

pub returns-in-Err-clause-told : goal.returns-in-Err-clause-told
returns-in-Err-clause-told c = rw c.in-Heap.is (c.acknowledged_of.new.heap, c.acknowledged_of.result, c.acknowledged_of.ensures, rw c.in-Err.is c.of_acknowledged.ensures, refl)
