use Rattle.std.proofs.Common.{Result, subst}
use Rattle.session.specs.declared.error.SessionError.{SessionError}
use Rattle.session.specs.Calls.{StoresAs}
use Rattle.ledger.specs.Transfers.{balance_of}
use Rattle.ledger.proofs.Calling.{writes}
use Rattle.ledger.proofs.account_access.put.Goals as goal

pub returns-clause-told : goal.returns-clause-told
returns-clause-told g c = let w = writes g.J.Joint.home c.args.thread.now c.store.new.self c.args.account c.args.balance c.store.result c.requires.field c.requires.guard c.requires.room c.store.ensures.told in
    subst (λ (r : Result (Unit {0}) SessionError). StoresAs g.J.Joint.home c.args.thread.now c.store.new.self (balance_of c.args.account) c.args.balance r) w.ok c.store.ensures.told

pub returns-clause-holds : goal.returns-clause-holds
returns-clause-holds g c = (writes g.J.Joint.home c.args.thread.now c.store.new.self c.args.account c.args.balance c.store.result c.requires.field c.requires.guard c.requires.room c.store.ensures.told).holds

pub returns-clause-needs : goal.returns-clause-needs
returns-clause-needs g c = (writes g.J.Joint.home c.args.thread.now c.store.new.self c.args.account c.args.balance c.store.result c.requires.field c.requires.guard c.requires.room c.store.ensures.told).needs
