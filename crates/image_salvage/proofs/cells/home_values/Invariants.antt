use Rattle.std.proofs.Common.{ℕ, ◌≡◌, ◌<◌, ◌≤◌, length, slice_index}
use Rattle.std.specs.Prelude.{slice_index_or, vec_capacity}
use Rattle.block_disk.specs.Device.{SameMoments}
use Rattle.image_parts.specs.Cells.{HasHome}
use Rattle.image_parts.specs.declared.guard_row.GuardRow.{GuardRow}
use Rattle.image_salvage.proofs.cells.home_values.Given as goal

-- the values so far
abbrev pub invariant-loop-field : goal.invariant-loop-field
invariant-loop-field g l = record {
  count : length l.values.items ≡ l.field;
  within : l.field ≤ l.layout.fields;
  room : l.layout.fields ≤ vec_capacity l.values;
  each : (f : ℕ) (d : GuardRow) → f < l.field → HasHome l.layout (slice_index_or l.guards f d) f (g.D.Disk.device l.initial.disk).now.bytes (slice_index l.values.items f);
  same : SameMoments (g.D.Disk.device l.initial.disk) (g.D.Disk.device l.disk);
  later : (g.D.Disk.device l.initial.disk).failures ≤ (g.D.Disk.device l.disk).failures;
}
