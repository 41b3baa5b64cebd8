use Rattle.session.specs.Sessions.{IsSessionOf, SameRing}
use Rattle.thread_work.specs.Threads.{IsStill}
use Rattle.thread_work.proofs.thread.await_stable.Given as goal

-- nothing was told so far
abbrev pub invariant-loop : goal.invariant-loop
invariant-loop g l =
    (goal.iterator-loop g).can_next l.iterator' × (goal.iterator-loop g).is_finite l.iterator' × IsSessionOf l.shared l.session × SameRing l.initial.session l.session × IsStill l.initial.session l.session
