use Rattle.std.proofs.Common.{ap, ◌∙◌}
use Rattle.heap_model.specs.Setting.{Setting}
use Rattle.session.proofs.Sitting.{sits_alone}
use Rattle.session.proofs.session.Session.write_alone.Goals as goal

pub invariant_of-self-clause-sits : goal.invariant_of-self-clause-sits
invariant_of-self-clause-sits c =
    let s = c.args.self.now in let e = c.write_field.ensures in
    let transient = ap (λ (g : Setting). g.is_logged c.args.field.0) c.requires.seat.1 ∙ c.requires.transient in
    sits_alone _ _ _ _ _ _ _ _ _ _ _ _ _ transient e.told e.grips e.clear s.sits
