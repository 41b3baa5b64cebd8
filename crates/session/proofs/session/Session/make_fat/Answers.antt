use Rattle.session.specs.Sessions.{view_of}
use Rattle.session.proofs.Fattening.{made_fat, grip_not_thin}
use Rattle.session.proofs.session.Session.make_fat.Goals as goal

pub returns-then-is_none-clause-fat : goal.returns-then-is_none-clause-fat
returns-then-is_none-clause-fat c =
    let t = c.fatten.new.self in
    made_fat (view_of t) c.args.object c.in-Some.grip t.parts.held.items c.fatten.result c.in-Some.ensures.object c.fatten.ensures.made

pub returns-else-is_none-clause-fat : goal.returns-else-is_none-clause-fat
returns-else-is_none-clause-fat c =
    let found = c.in-Some.ensures in grip_not_thin (view_of c.args.self.now) c.args.object c.in-Some.grip found.object found.keeps c.if-is_none.ensures
