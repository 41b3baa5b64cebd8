use Rattle.std.proofs.Common.{rules}
use Rattle.thread_rings.specs.Following.{whose}
use Rattle.thread_rings.proofs.opening.open_ring.Goals as goal

pub invariant_of-result : goal.invariant_of-result
invariant_of-result c = record { whose = (whose c.args.seat.now, search rules); least = search rules }

pub invariant_of-receiver : goal.invariant_of-receiver
invariant_of-receiver c = record { whose = (whose c.args.seat.now, search rules); told = search rules }
