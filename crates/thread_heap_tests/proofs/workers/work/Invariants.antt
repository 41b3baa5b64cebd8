use Rattle.session.specs.Sessions.{IsSessionOf}
use Rattle.thread_heap_tests.proofs.workers.work.Given as goal

abbrev pub invariant-loop-place : goal.invariant-loop-place
invariant-loop-place g l = IsSessionOf l.shared l.session
