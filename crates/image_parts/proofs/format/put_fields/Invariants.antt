use Rattle.std.proofs.Common.{◌≡◌, ◌≤◌, length}
use Rattle.image_parts.specs.Calls.{after}
use Rattle.image_parts.specs.Format.{all_field_calls}
use Rattle.image_parts.proofs.format.put_fields.Given as goal

abbrev pub invariant-loop-field : goal.invariant-loop-field
invariant-loop-field g l = record {
  calls : g.D.Disk.device l.disk ≡ after (all_field_calls l.layout l.schema l.field) (g.D.Disk.device l.initial.disk);
  size : length (g.D.Disk.device l.disk).now.bytes ≡ length (g.D.Disk.device l.initial.disk).now.bytes;
  later : (g.D.Disk.device l.initial.disk).failures ≤ (g.D.Disk.device l.disk).failures;
}
