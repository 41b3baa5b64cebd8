use Rattle.std.proofs.Common.{Result, subst}
use Rattle.session.specs.declared.error.SessionError.{SessionError}
use Rattle.session.specs.Calls.{Exits}
use Rattle.ledger.proofs.Calling.{leaves}
use Rattle.ledger.proofs.account_access.leave.Goals as goal

pub returns-clause-told : goal.returns-clause-told
returns-clause-told g c = let l = leaves g.J.Joint.home c.args.thread.now c.exit.new.self c.args.object c.exit.result c.requires c.exit.ensures.told in
    subst (λ (r : Result (Unit {0}) SessionError). Exits g.J.Joint.home c.args.thread.now c.exit.new.self c.args.object r) l.ok c.exit.ensures.told

pub returns-clause-others : goal.returns-clause-others
returns-clause-others g c = (leaves g.J.Joint.home c.args.thread.now c.exit.new.self c.args.object c.exit.result c.requires c.exit.ensures.told).others

pub returns-clause-nothing : goal.returns-clause-nothing
returns-clause-nothing g c = (leaves g.J.Joint.home c.args.thread.now c.exit.new.self c.args.object c.exit.result c.requires c.exit.ensures.told).nothing
