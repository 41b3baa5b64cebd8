use Rattle.session.specs.Sessions.{IsSessionOf}
use Rattle.thread_heap_tests.proofs.room.pass.Given as goal

abbrev pub invariant-loop-passed : goal.invariant-loop-passed
invariant-loop-passed l = IsSessionOf l.shared l.session
