use Rattle.std.proofs.Common.{◌∙◌}
use Rattle.session.proofs.Holding.{held_length}
use Rattle.session.proofs.session.Session.holds.Goals as goal

pub returns : goal.returns
returns c = let x = c.args.self.now.sits.stays in c.len.ensures.value ∙ held_length _ _ x.holds
