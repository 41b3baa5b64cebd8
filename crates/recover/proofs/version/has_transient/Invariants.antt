use Rattle.std.proofs.Common.{ℕ, ◌≡◌, ◌<◌, false}
use Rattle.undo_log.specs.StandsFor.{is_transient_in}
use Rattle.recover.proofs.version.has_transient.Given as goal

abbrev pub invariant-loop-row : goal.invariant-loop-row
invariant-loop-row l = (f : ℕ) → f < l.row-index → is_transient_in l.guards f ≡ false
