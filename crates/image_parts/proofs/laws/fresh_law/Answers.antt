use Rattle.image_parts.proofs.Reading.{fresh_is_image}
use Rattle.image_parts.proofs.laws.fresh_law.Goals as goal

pub returns : goal.returns
returns c = fresh_is_image
