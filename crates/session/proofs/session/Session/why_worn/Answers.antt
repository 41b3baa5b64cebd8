use Rattle.std.proofs.Common.{refl, ◌∙◌}
use Rattle.session.proofs.Sitting.{sits_silent}
use Rattle.session.proofs.session.Session.why_worn.Goals as goal

pub invariant_of-self-clause-sits : goal.invariant_of-self-clause-sits
invariant_of-self-clause-sits c = let e = c.has_slot.ensures in let s = c.args.self.now in sits_silent _ _ _ _ _ _ _ _ _ _ _ e.told e.grips (e.mark ∙ s.sits.idle.1) refl refl s.sits
