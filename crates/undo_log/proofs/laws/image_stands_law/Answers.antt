use Rattle.undo_log.proofs.ImageStands.{image_stands}
use Rattle.undo_log.proofs.laws.image_stands_law.Goals as goal

pub returns : goal.returns
returns c l s log base cut image heap legal whole closed more shown size kept = image_stands l s log base cut image heap legal whole closed more shown size kept
