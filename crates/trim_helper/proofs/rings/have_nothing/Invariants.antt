use Rattle.std.proofs.Common.{ℕ, ◌<◌}
use Rattle.trim_helper.specs.Moves.{HasNothing}
use Rattle.trim_helper.proofs.rings.have_nothing.Given as goal

abbrev pub invariant-loop-lane : goal.invariant-loop-lane
invariant-loop-lane l = record { none : (k : ℕ) → k < l.lane → HasNothing l.rings l.waiting k }
