use Rattle.block_disk.proofs.Images.{leaves_synced}
use Rattle.block_disk.proofs.laws.sync_law.Goals as goal

pub returns : goal.returns
returns c = leaves_synced
