use Rattle.undo_log.specs.OldValues.{Holds}
use Rattle.undo_log.proofs.Since.{takes_since}
use Rattle.undo_log.proofs.laws.back_since_law.Goals as goal

pub returns : goal.returns
returns c guard f log base cut whole more cell v takes = takes_since guard f base cut log whole more (Holds cell) v takes
