use Rattle.image_parts.proofs.Places.{places}
use Rattle.image_parts.proofs.laws.place_law.Goals as goal

pub returns : goal.returns
returns c = places
