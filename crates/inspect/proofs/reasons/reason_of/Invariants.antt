use Rattle.std.proofs.Common.{◌≡◌, drop}
use Rattle.inspect.specs.GraphText.{reason_in}
use Rattle.inspect.proofs.reasons.reason_of.Given as goal

-- it is told by those that are left
abbrev pub invariant-loop-entry : goal.invariant-loop-entry
invariant-loop-entry l = reason_in (drop l.entry-index l.dropped) l.section ≡ reason_in l.dropped l.section
