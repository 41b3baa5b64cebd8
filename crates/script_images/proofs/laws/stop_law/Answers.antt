use Rattle.script_images.proofs.StopLemmas.{stop_is}
use Rattle.script_images.proofs.laws.stop_law.Goals as goal

pub returns : goal.returns
returns c = stop_is
