use Rattle.std.proofs.Common.{◌≡◌}
use Rattle.zelamiku.specs.HeapDoors.{rows_of}
use Rattle.zelamiku.proofs.heap_calls.rows_of.Given as goal

-- a row for each field so far
abbrev pub invariant-loop-field : goal.invariant-loop-field
invariant-loop-field l = l.rows.items ≡ rows_of l.yielded
