use Rattle.zelamiku.proofs.heap_calls.session.Goals as goal

pub returns-in-Heap-clause-told : goal.returns-in-Heap-clause-told
returns-in-Heap-clause-told c = rw c.in-Heap.is c.hand_out.ensures.handed
