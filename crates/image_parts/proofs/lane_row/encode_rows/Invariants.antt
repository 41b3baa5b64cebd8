use Rattle.std.proofs.Common.{◌≡◌, ◌*◌, take}
use Rattle.image_parts.specs.Rows.{rows_bytes}
use Rattle.image_parts.proofs.lane_row.encode_rows.Given as goal

abbrev pub invariant-loop-i : goal.invariant-loop-i
invariant-loop-i l = take (32 * l.i) l.bytes ≡ rows_bytes (take l.i l.rows)
