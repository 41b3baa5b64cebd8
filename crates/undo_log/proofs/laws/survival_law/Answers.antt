use Rattle.undo_log.proofs.Frames.{records_survive}
use Rattle.undo_log.proofs.laws.survival_law.Goals as goal

pub returns : goal.returns
returns c l lane place records ranges apart old new has same = records_survive l lane place records ranges apart old new has same
