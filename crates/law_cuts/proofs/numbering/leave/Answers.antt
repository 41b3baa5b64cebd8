use Rattle.std.proofs.Common.{◌≡◌, ◌==◌, Some, None, ap, ◌∙◌, rules}
use Rattle.std.specs.List.{remove, position}
use Rattle.law_cuts.specs.Plain.{numbers}
use Rattle.law_cuts.proofs.Held.{place, placed, not_placed, numbers_removed, numbers_absent}
use Rattle.law_cuts.proofs.numbering.leave.Goals as goal

pub returns-in-Some : goal.returns-in-Some
returns-in-Some c =
    let found : position (λ h. h.0 == c.args.object.0) c.args.held.now.items ≡ Some c.in-Some.place = search rules in
    let at : c.in-Some.place ≡ place c.args.object.0 c.args.held.now.items = placed c.args.object.0 c.args.held.now.items c.in-Some.place found in
    ap numbers c.remove.ensures.items ∙ ap (λ k. numbers (remove c.args.held.now.items k)) at ∙ numbers_removed c.args.object.0 c.args.held.now.items

pub returns-in_default : goal.returns-in_default
returns-in_default c =
    let none : position (λ h. h.0 == c.args.object.0) c.args.held.now.items ≡ None = search rules in
    numbers_absent c.args.object.0 c.args.held.now.items (not_placed c.args.object.0 c.args.held.now.items none)
