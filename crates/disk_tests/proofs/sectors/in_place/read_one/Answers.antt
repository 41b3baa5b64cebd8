use Rattle.disk_tests.proofs.Rooms.{lies_in}
use Rattle.disk_tests.proofs.sectors.in_place.read_one.Goals as goal

pub read_sector-requires-clause-fits : goal.read_sector-requires-clause-fits
read_sector-requires-clause-fits c = lies_in c.args.sectors.now.size c.args.i c.count-count.result _ c.if-number-count.false c.count-count.ensures.within
