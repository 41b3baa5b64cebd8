use Rattle.undo_log.proofs.OneHeap.{one_span}
use Rattle.undo_log.proofs.laws.one_span_law.Goals as goal

pub returns : goal.returns
returns c l lane from to image records others a b = one_span l lane from to image records others a b
