use Rattle.std.proofs.Common.{[], ◌∷◌}
use Rattle.block_disk.specs.Device.{range_of}
use Rattle.block_disk.specs.Images.{ImageBut}
use Rattle.block_disk.proofs.Images.{besides_none, leaves_write, now_too}
use Rattle.block_disk.proofs.access.write_within.Goals as goal

pub returns-in-Ok-clause-any_moment : goal.returns-in-Ok-clause-any_moment
returns-in-Ok-clause-any_moment g c =
    let w = c.write_at.ensures in
    leaves_write c.args.at c.args.bytes.now (g.D.Disk.device c.args.disk.now) (g.D.Disk.device c.write_at.new.self) c.write_at.result w.in_range w.ok w.out_of_range w.fault

pub returns-in-Ok-clause-crash : goal.returns-in-Ok-clause-crash
returns-in-Ok-clause-crash g c =
    let old = g.D.Disk.device c.args.disk.now in
    let rs = range_of c.args.at c.args.bytes.now ∷ [] in
    now_too old (g.D.Disk.device c.write_at.new.self) (ImageBut old rs) (besides_none old rs) (returns-in-Ok-clause-any_moment g c)

pub returns-in-Err-clause-any_moment : goal.returns-in-Err-clause-any_moment
returns-in-Err-clause-any_moment g c =
    let w = c.write_at.ensures in
    leaves_write c.args.at c.args.bytes.now (g.D.Disk.device c.args.disk.now) (g.D.Disk.device c.write_at.new.self) c.write_at.result w.in_range w.ok w.out_of_range w.fault

pub returns-in-Err-clause-crash : goal.returns-in-Err-clause-crash
returns-in-Err-clause-crash g c =
    let old = g.D.Disk.device c.args.disk.now in
    let rs = range_of c.args.at c.args.bytes.now ∷ [] in
    now_too old (g.D.Disk.device c.write_at.new.self) (ImageBut old rs) (besides_none old rs) (returns-in-Err-clause-any_moment g c)
