use Rattle.session.specs.Sessions.{IsSessionOf}
use Rattle.session_tests.proofs.calls.follow.Given as goal

abbrev pub invariant-loop-call : goal.invariant-loop-call
invariant-loop-call l = IsSessionOf l.shared l.session
