use Rattle.std.proofs.Common.{◌≡◌, ◌<◌, ℕ, length}
use Rattle.std.specs.List.{slice_index_or}
use Rattle.image_parts.specs.Guards.{guard_row_of}
use Rattle.image_parts.specs.declared.guard_row.GuardRow.{GuardRow as Row}
use Rattle.store_image.proofs.formatting.guard_rows.Given as goal

-- the rows of the fields so far
abbrev pub invariant-loop-field : goal.invariant-loop-field
invariant-loop-field l = record {
  size : length l.rows.items ≡ l.field;
  each : (f : ℕ) (d : Row) → f < l.field → slice_index_or l.rows.items f d ≡ guard_row_of l.schema f;
}
