use Rattle.image_file.proofs.BesideLemmas.{stays_before}
use Rattle.script_images.proofs.assigning.set_at.Goals as goal

pub returns-clause-beside : goal.returns-clause-beside
returns-clause-beside g c = stays_before c.set_image-ended.ensures.beside c.tidy.ensures.beside
