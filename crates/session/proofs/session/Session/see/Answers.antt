use Rattle.session.proofs.Sitting.{sits_seen}
use Rattle.session.proofs.session.Session.see.Goals as goal

pub invariant_of-self-clause-sits : goal.invariant_of-self-clause-sits
invariant_of-self-clause-sits c = let e = c.see.ensures in sits_seen _ _ _ _ _ _ _ _ _ _ e.seen e.grips e.mark c.args.self.now.sits
