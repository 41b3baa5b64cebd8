use Rattle.disk_tests.proofs.Rooms.{lies_in}
use Rattle.disk_tests.proofs.sectors.in_place.put.Goals as goal

pub write_sector-requires-clause-fits : goal.write_sector-requires-clause-fits
write_sector-requires-clause-fits c = lies_in c.args.sectors.now.size c.args.i c.count-count.result _ c.if-number-count.false c.count-count.ensures.within
