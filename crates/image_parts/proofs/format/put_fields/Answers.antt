use Rattle.std.proofs.Common.{◌∙◌, arith}
use Rattle.image_parts.proofs.Fresh.{field_made}
use Rattle.image_parts.proofs.format.put_fields.Goals as goal

pub loop-field-preserved : goal.loop-field-preserved
loop-field-preserved g c = record {
  calls = field_made c.args.layout.now c.args.schema.now c.loop-field.field (g.D.Disk.device c.args.disk.now) (g.D.Disk.device c.loop-field.disk) (g.D.Disk.device c.put_field.new.disk)
      c.loop-field.invariant.calls c.in_ok-put_field.ensures.calls;
  size = c.in_ok-put_field.ensures.size ∙ c.loop-field.invariant.size;
  later = omega (arith, c.loop-field.invariant.later, c.put_field.ensures.cause.later);
}
