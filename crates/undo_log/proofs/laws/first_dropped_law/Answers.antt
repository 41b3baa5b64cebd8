use Rattle.undo_log.proofs.Back.{back_is_first, dropped_or_same}
use Rattle.undo_log.proofs.laws.first_dropped_law.Goals as goal

pub returns : goal.returns
returns c = record {
  first = λ s log legal cut f v. back_is_first s log cut f v legal;
  kept = λ s log legal cut closed f. dropped_or_same s log cut f legal closed;
}
