use Rattle.ledger.proofs.Calling.{missed_if, took_if}
use Rattle.ledger.proofs.account_access.take.Goals as goal

pub returns-clause-took : goal.returns-clause-took
returns-clause-took g c = took_if g.J.Joint.home c.args.thread.now c.enter.new.self c.args.object c.enter.result c.enter.ensures.told

pub returns-clause-missed : goal.returns-clause-missed
returns-clause-missed g c = missed_if g.J.Joint.home c.args.thread.now c.enter.new.self c.args.object c.enter.result c.enter.ensures.told
