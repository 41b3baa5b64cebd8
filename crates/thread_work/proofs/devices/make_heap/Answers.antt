use Rattle.std.proofs.Common.{◌∙◌, ap, arith}
use Rattle.block_disk.specs.Device.{Device}
use Rattle.image_parts.specs.Format.{format_calls}
use Rattle.image_parts.specs.declared.layout.Layout.{Layout}
use Rattle.image_parts.specs.declared.guard_row.GuardRow.{GuardRow}
use Rattle.thread_work.proofs.Refused.{after_failures}
use Rattle.thread_work.proofs.devices.make_heap.Goals as goal

pub returns-in-Ok-clause-made : goal.returns-in-Ok-clause-made
returns-in-Ok-clause-made g c = record { layout = c.in-Ok.ensures.layout; first = c.in-Ok.ensures.heap; calls = c.in-Ok.ensures.calls }

pub returns-in-Ok-clause-fits : goal.returns-in-Ok-clause-fits
returns-in-Ok-clause-fits g c = record {
  objects = ap (λ (l : Layout). l.objects) c.in-Ok.ensures.layout;
  fields = ap (λ (l : Layout). l.fields) c.in-Ok.ensures.layout;
  guarded = λ f d below. ap (λ (r : GuardRow). r.guard.0) (c.in-Ok.ensures.guards f d below);
  marked = λ f d below. ap (λ (r : GuardRow). r.transient) (c.in-Ok.ensures.guards f d below);
}

pub returns-in-Ok-clause-failures : goal.returns-in-Ok-clause-failures
returns-in-Ok-clause-failures g c =
    let same = ap (λ (d : Device). d.failures) c.in-Ok.ensures.calls ∙ after_failures (format_calls c.in-Ok.made.layout c.args.schema.now) (g.D.Disk.device c.args.disk) in
    omega (arith, same)
