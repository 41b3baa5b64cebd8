use Rattle.undo_log.proofs.OneHeap.{one_heap}
use Rattle.undo_log.proofs.laws.one_heap_law.Goals as goal

pub returns : goal.returns
returns c l image a b p q = one_heap l image a b p q
