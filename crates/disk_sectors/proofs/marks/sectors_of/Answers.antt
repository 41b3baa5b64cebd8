use Rattle.disk_sectors.proofs.Sizes.{ceil_512, ceil_4096}
use Rattle.disk_sectors.proofs.marks.sectors_of.Goals as goal

pub returns-in-Bytes512-clause-within : goal.returns-in-Bytes512-clause-within
returns-in-Bytes512-clause-within c = (ceil_512 c.args.size c.args.len c.in-Bytes512.is).0

pub returns-in-Bytes512-clause-least : goal.returns-in-Bytes512-clause-least
returns-in-Bytes512-clause-least c = (ceil_512 c.args.size c.args.len c.in-Bytes512.is).1

pub returns-in-Bytes4096-clause-within : goal.returns-in-Bytes4096-clause-within
returns-in-Bytes4096-clause-within c = (ceil_4096 c.args.size c.args.len c.in-Bytes4096.is).0

pub returns-in-Bytes4096-clause-least : goal.returns-in-Bytes4096-clause-least
returns-in-Bytes4096-clause-least c = (ceil_4096 c.args.size c.args.len c.in-Bytes4096.is).1
