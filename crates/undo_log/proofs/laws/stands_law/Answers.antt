use Rattle.undo_log.specs.OldValues.{Holds}
use Rattle.undo_log.proofs.Back.{stands}
use Rattle.undo_log.proofs.laws.stands_law.Goals as goal

pub returns : goal.returns
returns c s log legal cut closed f cell known = stands s log legal cut closed f (Holds cell) known
