use Rattle.law_histories.proofs.Undo.{undo_is_kept}
use Rattle.law_histories.proofs.laws.undo_law.Goals as goal

pub returns : goal.returns
returns c s log legal cut closed f = undo_is_kept s log cut f legal closed
