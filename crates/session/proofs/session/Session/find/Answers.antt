use Rattle.session.specs.Sessions.{view_of}
use Rattle.session.proofs.Holding.{looked_up, placed}
use Rattle.session.proofs.session.Session.find.Goals as goal

pub returns-clause-found : goal.returns-clause-found
returns-clause-found c = let s = c.args.self.now in looked_up (view_of s) s.parts.held.items _ c.args.object c.grip_for.result s.sits.stays.holds c.as_slice.ensures.value c.grip_for.ensures.found

pub returns-clause-place : goal.returns-clause-place
returns-clause-place c = let s = c.args.self.now in placed s.parts.held.items _ c.args.object.0 c.grip_for.result c.as_slice.ensures.value c.grip_for.ensures.place
