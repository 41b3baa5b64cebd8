use Rattle.std.proofs.Common.{ℕ, ◌≡◌, length, replicate, ap, sym, ◌∙◌, subst, arith}
use Rattle.std.proofs.lemmas.List.{length-replicate}
use Rattle.block_disk.specs.Device.{Device}
use Rattle.block_disk.specs.Memory.{Memory, device_of, fresh}
use Rattle.disk_deferred.specs.Host.{host_name}
use Rattle.guards.specs.Schema.{Declarations, field_count, first_of}
use Rattle.image_parts.specs.Calls.{after}
use Rattle.image_parts.specs.Format.{format_calls}
use Rattle.image_parts.specs.Layout.{size_of}
use Rattle.image_parts.specs.declared.guard_row.GuardRow.{GuardRow}
use Rattle.image_parts.specs.declared.layout.Layout.{Layout}
use Rattle.store_image.specs.Formatting.{layout_with}
use Rattle.host_heap.specs.Hosting.{hosted_device}
use Rattle.host_heap.specs.Opening.{HasBegun, threads_of}
use Rattle.image_parts.specs.NumberedRows.{numbered}
use Rattle.host_heap.proofs.Hosts.{after_name, device_is}
use Rattle.host_heap.proofs.Makings.{making_refused}
use Rattle.image_parts.proofs.Numbered.{fields_are, first_at}
use Rattle.host_heap.proofs.opening.format.Goals as goal

pub begin-requires : goal.begin-requires
begin-requires c =
    let told = c.in-Ok-format.ensures in
    record {
      schema = record {
        objects = ap (λ (l : Layout). l.objects) told.layout;
        fields = ap (λ (l : Layout). l.fields) told.layout;
        guarded = λ f d low. ap (λ (r : GuardRow). r.guard.0) (told.guards f d low);
        marked = λ f d low. ap (λ (r : GuardRow). r.transient) (told.guards f d low);
      };
      calls = (c.in-Ok-new.ensures.host.0, c.in-Ok-new.ensures.host.1);
      host = ap (λ (d : Device). d.name) told.calls ∙ after_name (format_calls c.in-Ok-format.made.layout c.in-Ok.schema) (hosted_device c.in-Ok-new.disk) ∙ c.in-Ok-new.ensures.host.2;
    }

pub returns-in-Ok-begin : goal.returns-in-Ok-begin
returns-in-Ok-begin c =
    let told = c.in-Ok-format.ensures in
    let rows = c.args.rows.now in
    let schema : c.in-Ok.schema ≡ numbered c.args.objects rows = c.in-Ok.ensures.ok in
    let layout : Layout = c.in-Some.layout in
    let laid = c.in-Some.ensures in
    let same_layout : layout ≡ layout_with c.in-Ok.schema c.args.lanes c.args.capacity = λ i. record { objects = laid.schema.objects i; fields = laid.schema.fields i; lanes = laid.lanes i; capacity = laid.capacity i } in
    let count : field_count c.in-Ok.schema ≡ length rows = ap (λ (d : Declarations). field_count d) schema ∙ fields_are 0 rows in
    let fields : c.in-Ok-format.made.layout.fields ≡ field_count c.in-Ok.schema = ap (λ (l : Layout). l.fields) told.layout in
    record {
      limits = told.limits;
      made = c.in-Ok-format.made;
      layout_is = told.layout ∙ ap (λ (d : Declarations). layout_with d c.args.lanes c.args.capacity) schema;
      formatted = told.calls
          ∙ (λ i. after (format_calls c.in-Ok-format.made.layout (schema i))
          (device_is c.in-Ok-new.disk c.in-Ok-begin.heap.calls (replicate (size_of c.in-Ok-format.made.layout) 0)
          (c.in-Ok-new.ensures.disk ∙ ap (λ (n : ℕ). fresh (replicate n 0)) (c.size.ensures ∙ ap (λ (l : Layout). size_of l) (same_layout ∙ sym told.layout)))
          (c.in-Ok-new.ensures.host.2 ∙ ap host_name (sym c.in-Ok-begin.ensures.calls)) i));
      values = λ f d low. told.heap f (omega (arith, low, fields)) ∙ ap (λ (s : Declarations). first_of s f) schema ∙ first_at 0 rows f d (omega (arith, low, fields, count));
      begun = subst (λ (s : Declarations). HasBegun s (threads_of c.in-Ok-format.made.layout.lanes c.args.threads) c.in-Ok-format.made c.in-Ok-begin.heap) schema c.in-Ok-begin.ensures.begun;
      rings = c.in-Ok-begin.ensures.rings;
    }

pub returns-in-Err-format : goal.returns-in-Err-format
returns-in-Err-format c =
    let layout : Layout = c.in-Some.layout in
    let made = c.in-Some.ensures in
    let same : layout ≡ layout_with c.in-Ok.schema c.args.lanes c.args.capacity = λ i. record { objects = made.schema.objects i; fields = made.schema.fields i; lanes = made.lanes i; capacity = made.capacity i } in
    let bytes : length (device_of c.in-Ok-new.disk.memory).now.bytes ≡ c.size.result =
    ap (λ (m : Memory). length (device_of m).now.bytes) c.in-Ok-new.ensures.disk ∙ length-replicate c.size.result 0 in
    let size : c.size.result ≡ size_of (layout_with c.in-Ok.schema c.args.lanes c.args.capacity) = c.size.ensures ∙ ap (λ (l : Layout). size_of l) same in
    making_refused c.args.objects c.args.rows.now c.args.lanes c.args.capacity c.in-Ok.schema _ _ c.in-Err-format.refusal (omega (arith, bytes, size)) c.in-Err-format.ensures.refused
