use Rattle.block_disk.proofs.Images.{leaves_synced}
use Rattle.block_disk.proofs.access.make_durable.Goals as goal

pub returns-in-Ok-clause-any_moment : goal.returns-in-Ok-clause-any_moment
returns-in-Ok-clause-any_moment g c = leaves_synced (g.D.Disk.device c.args.disk.now) (g.D.Disk.device c.sync.new.self) c.in-Ok.ensures.ok
