use Rattle.store_helper_sections.proofs.Preceding.{precede}
use Rattle.store_helper_sections.proofs.laws.helper_law.Goals as goal

pub returns : goal.returns
returns c = precede
