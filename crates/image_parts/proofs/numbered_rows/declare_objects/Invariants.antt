use Rattle.std.proofs.Common.{◌≡◌, []}
use Rattle.image_parts.specs.NumberedRows.{numbered}
use Rattle.image_parts.proofs.numbered_rows.declare_objects.Given as goal

-- the objects so far are declared
abbrev pub invariant-loop-number : goal.invariant-loop-number
invariant-loop-number l = l.builder ≡ numbered l.number []
