use Rattle.undo_log.proofs.Frames.{spares}
use Rattle.undo_log.proofs.laws.spare_law.Goals as goal

pub returns : goal.returns
returns c l lane row n limits is_row fits = spares l lane row n limits is_row fits
