use Rattle.session.specs.Sessions.{IsSessionOf}
use Rattle.session_tests.proofs.pool_threads.pass_often.Given as goal

abbrev pub invariant-loop : goal.invariant-loop
invariant-loop g l = IsSessionOf l.shared l.session
