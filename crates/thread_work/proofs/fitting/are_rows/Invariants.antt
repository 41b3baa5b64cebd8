use Rattle.std.proofs.Common.{◌≡◌, ◌<◌, ℕ}
use Rattle.std.specs.List.{slice_index_or}
use Rattle.guards.specs.Schema.{guard_of, is_transient_of}
use Rattle.image_parts.specs.declared.guard_row.GuardRow.{GuardRow as Row}
use Rattle.thread_work.proofs.fitting.are_rows.Given as goal

abbrev pub invariant-loop-field : goal.invariant-loop-field
invariant-loop-field l = (f : ℕ) (d : Row) → f < l.field → ((slice_index_or l.rows f d).guard.0 ≡ guard_of l.schema f) × ((slice_index_or l.rows f d).transient ≡ is_transient_of l.schema f)
