use Rattle.undo_log.specs.OldValues.{Holds}
use Rattle.undo_log.proofs.Back.{by_place, by_section}
use Rattle.undo_log.proofs.laws.place_law.Goals as goal

pub returns : goal.returns
returns c guard f lanes cut cell v = (by_place guard f lanes cut (Holds cell) v, by_section guard f lanes cut (Holds cell) v)
