use Rattle.session.specs.Sessions.{IsSessionOf}
use Rattle.session_tests.proofs.limits.inflate_many.Given as goal

abbrev pub invariant-loop-number : goal.invariant-loop-number
invariant-loop-number l = IsSessionOf l.shared l.session
