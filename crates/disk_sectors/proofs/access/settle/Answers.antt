use Rattle.std.proofs.Common.{[]}
use Rattle.block_disk.specs.Images.{ImageBut}
use Rattle.block_disk.proofs.Images.{leaves_synced, stays}
use Rattle.disk_sectors.proofs.access.settle.Goals as goal

pub returns-in-Ok-clause-any_moment : goal.returns-in-Ok-clause-any_moment
returns-in-Ok-clause-any_moment g c = leaves_synced (g.S.Sectors.device c.args.sectors.now) (g.S.Sectors.device c.flush.new.self) c.in-Ok.ensures.ok

pub returns-in-Err-clause-any_moment : goal.returns-in-Err-clause-any_moment
returns-in-Err-clause-any_moment g c =
    let old = g.S.Sectors.device c.args.sectors.now in
    stays old (g.S.Sectors.device c.flush.new.self) (ImageBut old []) c.in-Err.ensures.fault
