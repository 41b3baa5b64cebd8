use Rattle.std.proofs.Common.{false, length, arith}
use Rattle.disk_sectors.proofs.Sizes.{area_fits}
use Rattle.disk_sectors.proofs.opening.make_places.Goals as goal

pub begin_places-requires : goal.begin_places-requires
begin_places-requires g c =
    let n = length (g.S.Sectors.device c.args.sectors.now).now.bytes in
    let fits = area_fits c.args.size c.args.count false n (c.has_room.ensures.enough c.if-not-has_room.false) in
    omega (arith, fits)
