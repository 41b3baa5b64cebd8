use Rattle.std.proofs.Common.{◌≡◌}
use Rattle.image_parts.specs.NumberedRows.{numbered}
use Rattle.image_parts.proofs.numbered_rows.declare_rows.Given as goal

-- the fields so far are declared
abbrev pub invariant-loop-row : goal.invariant-loop-row
invariant-loop-row l = l.builder ≡ numbered l.fn.objects l.yielded
