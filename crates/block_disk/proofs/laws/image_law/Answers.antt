use Rattle.block_disk.proofs.Images.{image_now, left_now}
use Rattle.block_disk.proofs.laws.image_law.Goals as goal

pub returns-clause-reads : goal.returns-clause-reads
returns-clause-reads c = image_now

pub returns-clause-now : goal.returns-clause-now
returns-clause-now c = left_now
