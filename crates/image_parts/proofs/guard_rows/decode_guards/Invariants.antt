use Rattle.image_parts.specs.Blocks.{HoldsRows}
use Rattle.image_parts.proofs.guard_rows.decode_guards.Given as goal

abbrev pub invariant-loop-i : goal.invariant-loop-i
invariant-loop-i l = HoldsRows l.bytes l.i l.rows
