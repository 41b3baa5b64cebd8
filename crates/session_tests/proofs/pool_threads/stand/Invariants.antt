use Rattle.session.specs.Sessions.{IsSessionOf}
use Rattle.session_tests.proofs.pool_threads.stand.Given as goal

abbrev pub invariant-loop : goal.invariant-loop
invariant-loop l = IsSessionOf l.shared l.session
