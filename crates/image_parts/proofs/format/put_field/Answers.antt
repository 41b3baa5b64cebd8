use Rattle.std.proofs.Common.{◌≡◌, ◌∙◌, ap}
use Rattle.std.specs.Int.{to_be_bytes, w64}
use Rattle.block_disk.specs.Device.{written}
use Rattle.guards.specs.Schema.{first_of}
use Rattle.image_parts.specs.Guards.{guard_bytes, guard_row_of}
use Rattle.image_parts.specs.declared.guard_row.GuardRow.{GuardRow}
use Rattle.image_parts.proofs.format.put_field.Goals as goal

pub returns-clause-calls : goal.returns-clause-calls
returns-clause-calls g c =
    let d0 = g.D.Disk.device c.args.disk.now in
    let row : c.of-row.result ≡ guard_row_of c.args.schema.now c.args.field.0 = c.of-row.ensures in
    let guard : c.encode_guard.result ≡ guard_bytes (guard_row_of c.args.schema.now c.args.field.0) = c.encode_guard.ensures ∙ ap guard_bytes row in
    let first : c.to_be_bytes.result ≡ to_be_bytes w64 (first_of c.args.schema.now c.args.field.0) =
    c.to_be_bytes.ensures ∙ ap (λ (r : GuardRow). to_be_bytes w64 r.first) row in
    c.in_ok-write_within-2.ensures.ok
    ∙ (λ i. written (c.home_cell.ensures i) (first i) ((c.in_ok-write_within.ensures.ok ∙ (λ j. written (c.guard_row.ensures j) (guard j) d0)) i))
