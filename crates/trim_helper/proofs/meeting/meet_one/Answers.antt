use Rattle.std.proofs.Common.{arith}
use Rattle.trim_helper.proofs.Gathering.{end_below}
use Rattle.trim_helper.proofs.meeting.meet_one.Goals as goal

pub look_beside-requires-clause-ring : goal.look_beside-requires-clause-ring
look_beside-requires-clause-ring c = let low = end_below c.args.one.producer c.args.rings.now c.args.one.lane.0 c.requires.one.ring in omega (arith, c.from.ensures)
