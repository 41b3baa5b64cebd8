use Rattle.std.proofs.Common.{[]}
use Rattle.session.specs.Sessions.{IsSessionOf, SameRing, view_of}
use Rattle.thread_drive.specs.Working.{HoldsJust}
use Rattle.thread_drive.proofs.working.work_all.Given as goal

abbrev pub invariant-loop : goal.invariant-loop
invariant-loop g l = IsSessionOf g.J.Joint.home l.thread × SameRing l.initial.thread l.thread × HoldsJust (view_of l.thread) [] 0
