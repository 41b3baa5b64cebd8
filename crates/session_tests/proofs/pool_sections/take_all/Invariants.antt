use Rattle.session.specs.Sessions.{IsSessionOf}
use Rattle.session_tests.proofs.pool_sections.take_all.Given as goal

abbrev pub invariant-loop-slot : goal.invariant-loop-slot
invariant-loop-slot l = IsSessionOf l.shared l.session
