use Rattle.std.proofs.Common.{◌<◌, inl, refl, sym, ◌∙◌, ap, subst, slice_index}
use Rattle.guards.specs.Schema.{Declarations, field_count}
use Rattle.image_parts.specs.declared.layout.Layout.{Layout}
use Rattle.block_disk.specs.Memory.{Memory, device_of}
use Rattle.recover.specs.Recovery.{IsTooOld}
use Rattle.script_machine.specs.Machine as machine
use Rattle.script_machine.specs.Agreement.{BeginsWith}
use Rattle.script_machine.specs.OfSchema.{IsDiskOf}
use Rattle.script_machine.specs.Reports.{Restores}
use Rattle.script_machine.proofs.AgreementLemmas.{agree-restored}
use Rattle.script_machine.proofs.SchemaLemmas.{restored_of, synced_of}
use Rattle.script_machine.proofs.phase.recover_down.Goals as goal

pub returns-in-Ok : goal.returns-in-Ok
returns-in-Ok c = let parts = c.into_parts-schema.ensures.parts in inl (record {
  taken = subst (λ (d : Memory). IsTooOld c.args.versions (device_of d).now.bytes → ⊥) (ap (λ (p : Declarations × Memory). p.1) parts) (rw c.in-Ok-Ok.field-0-is at c.in-Ok-Ok.ensures.taken);
  live = record { monitors = c.in-Ok.monitors; store = c.in-Ok-Ok.store };
  report = c.in-Ok-Ok.report;
  answers = refl;
  runs = ap machine.Running c.new-running.ensures;
  restores = subst (λ (d : Memory). Restores d c.in-Ok-Ok.store c.in-Ok-Ok.report) (ap (λ (p : Declarations × Memory). p.1) parts) (rw c.in-Ok-Ok.field-0-is at c.in-Ok-Ok.ensures.restored);
  begins = subst (λ (d : Declarations). BeginsWith d c.in-Ok-Ok.report.heap.items c.in-Ok-Ok.store) (ap (λ (p : Declarations × Memory). p.0) parts)
      (restored_of c.into_parts-schema.result.0 c.into_parts-schema.result.1 c.in-Ok-Ok.store c.in-Ok-Ok.report (subst (λ (p : Declarations × Memory). IsDiskOf p.0 p.1) (sym parts) c.into_parts-schema.ensures.of_schema)
      (rw c.in-Ok-Ok.field-0-is at c.in-Ok-Ok.ensures.restored) (rw c.in-Ok-Ok.field-0-is at c.in-Ok-Ok.ensures.running));
  restored = record {
    first = slice_index c.in-Ok.monitors.values;
    fresh_monitors = record {
      schema_is = c.in-Ok.ensures.schema ∙ ap (λ (p : Declarations × Memory). p.0) parts;
      last = c.in-Ok.ensures.last;
      lanes_are = c.in-Ok.ensures.lanes ∙ ap (λ (l : Layout). l.lanes) c.layout-lanes.ensures;
      state = c.in-Ok.ensures.state;
    };
    values = λ f below. c.in-Ok.ensures.values f (subst (λ (d : Declarations). f < field_count d) (sym (ap (λ (p : Declarations × Memory). p.0) parts)) below) ∙ ap (λ xs. slice_index xs f) c.deref.ensures.value;
  };
})

pub new-running-requires : goal.new-running-requires
new-running-requires c =
    let monitors = c.in-Ok.ensures in
    let begins = restored_of c.into_parts-schema.result.0 c.into_parts-schema.result.1 c.in-Ok-Ok.store c.in-Ok-Ok.report
    (subst (λ (p : Declarations × Memory). IsDiskOf p.0 p.1) (sym c.into_parts-schema.ensures.parts) c.into_parts-schema.ensures.of_schema)
    (rw c.in-Ok-Ok.field-0-is at c.in-Ok-Ok.ensures.restored) (rw c.in-Ok-Ok.field-0-is at c.in-Ok-Ok.ensures.running) in
    agree-restored c.into_parts-schema.result.0 c.in-Ok-Ok.report.heap.items c.in-Ok.monitors c.in-Ok-Ok.store monitors.schema monitors.last monitors.state
    (λ f below. monitors.values f below ∙ ap (λ xs. slice_index xs f) c.deref.ensures.value) begins
    (sym (monitors.lanes ∙ ap (λ (l : Layout). l.lanes) c.layout-lanes.ensures))

pub new-down-requires : goal.new-down-requires
new-down-requires c =
    let refused = rw c.in-Ok-Err.field-0-is at c.in-Ok-Err.ensures.restored in
    synced_of c.into_parts-schema.result.0 c.into_parts-schema.result.1 c.in-Ok-Err.disk refused.untouched
    (subst (λ (p : Declarations × Memory). IsDiskOf p.0 p.1) (sym c.into_parts-schema.ensures.parts) c.into_parts-schema.ensures.of_schema)
