use Rattle.std.proofs.Common.{ℕ, ◌<◌, ◌≤◌, ◌-◌, vec_len}
use Rattle.std.specs.Prelude.{vec_capacity}
use Rattle.std.specs.List.{slice_index_or}
use Rattle.block_disk.specs.Device.{SameMoments}
use Rattle.image_parts.specs.Guards.{HasGuard}
use Rattle.image_parts.specs.declared.guard_row.GuardRow.{GuardRow}
use Rattle.image_parts.proofs.guard_rows.read_guards.Given as goal

abbrev pub invariant-loop-block : goal.invariant-loop-block
invariant-loop-block g l = record {
  within : vec_len l.rows ≤ l.layout.fields;
  room : l.layout.fields ≤ vec_capacity l.rows;
  read : (f : ℕ) (d : GuardRow) → f < vec_len l.rows → HasGuard l.layout f (g.D.Disk.device l.initial.disk).now.bytes (slice_index_or l.rows.items f d);
  same : SameMoments (g.D.Disk.device l.initial.disk) (g.D.Disk.device l.disk);
  later : (g.D.Disk.device l.initial.disk).failures ≤ (g.D.Disk.device l.disk).failures;
}

abbrev pub decreases-loop-block : goal.decreases-loop-block
decreases-loop-block g l = l.layout.fields - vec_len l.rows
