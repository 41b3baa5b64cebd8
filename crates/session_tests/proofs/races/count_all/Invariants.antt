use Rattle.std.proofs.Common.{All, vec_len}
use Rattle.session.specs.Sessions.{IsSessionOf}
use Rattle.session_tests.proofs.races.count_all.Given as goal

abbrev pub invariant-sessions : goal.invariant-sessions
invariant-sessions g l = All (IsSessionOf l.shared) l.sessions.items

abbrev pub decreases-sessions : goal.decreases-sessions
decreases-sessions g l = vec_len l.sessions
