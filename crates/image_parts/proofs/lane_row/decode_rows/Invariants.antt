use Rattle.std.proofs.Common.{◌≡◌, ◌*◌, take}
use Rattle.std.specs.Prelude.{All}
use Rattle.image_parts.specs.Rows.{rows_bytes, FitsRow}
use Rattle.image_parts.proofs.lane_row.decode_rows.Given as goal

abbrev pub invariant-loop-i : goal.invariant-loop-i
invariant-loop-i l = record { spelled : take (32 * l.i) l.bytes ≡ rows_bytes (take l.i l.rows); fits : All FitsRow (take l.i l.rows) }
