use Rattle.std.proofs.Common.{ap, ◌∙◌}
use Rattle.heap_model.specs.Setting.{Setting}
use Rattle.session.proofs.Sitting.{sits_stored}
use Rattle.session.proofs.session.Session.write.Goals as goal

pub invariant_of-self-clause-sits : goal.invariant_of-self-clause-sits
invariant_of-self-clause-sits c =
    let s = c.args.self.now in let e = c.write_field-before.ensures in let sent = c.push.ensures.sent in
    let is_logged = ap (λ (g : Setting). g.is_logged c.args.field.0) c.requires.seat.1 ∙ c.requires.logged in
    sits_stored _ _ _ _ _ _ _ _ _ _ _ _ _ _ _ is_logged sent.0 e.told e.grips e.clear c.requires.some c.requires.short sent.1 s.sits
