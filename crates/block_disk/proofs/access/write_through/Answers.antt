use Rattle.std.proofs.Common.{[], ◌∷◌}
use Rattle.block_disk.specs.Device.{range_of}
use Rattle.block_disk.specs.Images.{ImageBut}
use Rattle.block_disk.proofs.Images.{and_then, after_sync}
use Rattle.block_disk.proofs.access.write_through.Goals as goal

pub returns-clause-any_moment : goal.returns-clause-any_moment
returns-clause-any_moment g c =
    let old = g.D.Disk.device c.args.disk.now in
    let mid = g.D.Disk.device c.write_within.new.disk in
    let new = g.D.Disk.device c.make_durable.new.disk in
    let P = ImageBut old (range_of c.args.at c.args.bytes.now ∷ []) in
    and_then old mid new P c.write_within.ensures.any_moment (after_sync mid new P c.write_within.ensures.crash c.make_durable.ensures.any_moment).0
