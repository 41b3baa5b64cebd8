use Rattle.std.proofs.Common.{ℕ, ◌<◌, length, ap, ◌∙◌, subst}
use Rattle.std.specs.List.{remove}
use Rattle.session.proofs.GripLists.{place_remove}
use Rattle.session.proofs.grips.take_at.Goals as goal

pub returns-then-len-gt2 : goal.returns-then-len-gt2
returns-then-len-gt2 c =
    let gs = c.args.held.now.items in
    c.remove.ensures.items ∙ ap (λ (k : ℕ). remove gs k) c.requires.0 ∙ place_remove c.args._object.0 gs (subst (λ (k : ℕ). k < length gs) c.requires.0 c.requires.1)
