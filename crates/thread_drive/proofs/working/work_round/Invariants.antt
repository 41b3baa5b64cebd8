use Rattle.std.proofs.Common.{[]}
use Rattle.session.specs.Sessions.{IsSessionOf, SameRing, view_of}
use Rattle.thread_drive.specs.Working.{HoldsJust}
use Rattle.thread_drive.proofs.working.work_round.Given as goal

abbrev pub invariant-loop : goal.invariant-loop
invariant-loop g l =
    (goal.iterator-loop g).can_next l.iterator' × (goal.iterator-loop g).is_finite l.iterator' × IsSessionOf g.J.Joint.home l.thread × SameRing l.initial.thread l.thread × HoldsJust (view_of l.thread) [] 0
