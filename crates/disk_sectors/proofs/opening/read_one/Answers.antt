use Rattle.std.proofs.Common.{◌+◌, length, arith}
use Rattle.disk_sectors.proofs.Sizes.{few_sectors, some_bytes}
use Rattle.disk_sectors.proofs.opening.read_one.Goals as goal

pub overflow_add-number : goal.overflow_add-number
overflow_add-number g c =
    let few = few_sectors c.args.size (c.args.first + c.args.i) (length (g.S.Sectors.device c.args.sectors.now).now.bytes) (omega (arith, c.requires.fits)) in
    let some = some_bytes c.args.size in
    omega (arith, few, some, c.requires.fits)
