use Rattle.image_parts.proofs.Fresh.{empty_rows}
use Rattle.image_parts.proofs.laws.empty_rows_law.Goals as goal

pub returns : goal.returns
returns c = empty_rows
