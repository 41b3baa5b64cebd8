use Rattle.image_salvage.proofs.NoteLemmas.{skipped}
use Rattle.image_salvage.proofs.laws.note_law.Goals as goal

pub returns : goal.returns
returns c = skipped
