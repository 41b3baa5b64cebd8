use Rattle.block_disk.proofs.Images.{besides_none, besides_then, besides_wider, besides_only}
use Rattle.block_disk.proofs.laws.image_but_law.Goals as goal

pub returns-clause-none : goal.returns-clause-none
returns-clause-none c = besides_none

pub returns-clause-again : goal.returns-clause-again
returns-clause-again c = besides_then

pub returns-clause-wider : goal.returns-clause-wider
returns-clause-wider c = besides_wider

pub returns-clause-but : goal.returns-clause-but
returns-clause-but c = besides_only
