use Rattle.std.proofs.Common.{◌≡◌, ◌<◌, replicate, refl, sym, ◌∙◌, ap, subst, arith}
use Rattle.block_disk.specs.Memory.{Memory, device_of, fresh}
use Rattle.image_parts.specs.Calls.{after}
use Rattle.image_parts.specs.Format.{format_calls}
use Rattle.image_parts.specs.Layout.{IsLayoutOf, size_of}
use Rattle.image_parts.specs.declared.layout.Layout.{Layout}
use Rattle.image_parts.specs.declared.guard_row.GuardRow.{GuardRow}
use Rattle.store_image.specs.Formatting.{layout_with}
use Rattle.guards.specs.Schema.{is_transient_of}
use Rattle.heap_model.specs.declared.limits.TheConstants.{LAST_NUMBER}
use Rattle.script_monitors.specs.Table.{setting_in}
use Rattle.script_machine.specs.OfSchema.{IsDiskOf}
use Rattle.script_machine.proofs.AgreementLemmas.{not_not}
use Rattle.script_machine.proofs.SchemaLemmas.{made_of}
use Rattle.script_machine.proofs.opening.format_store.Goals as goal

pub returns-in-Ok-clause-tells : goal.returns-in-Ok-clause-tells
returns-in-Ok-clause-tells c =
    let made = c.in-Ok.ensures.layout in
    c.in_ok-adopt-in-Ok.ensures.tells (setting_in c.args.schema.now LAST_NUMBER) (record {
      objects = ap (λ (l : Layout). l.objects) (sym made);
      fields = ap (λ (l : Layout). l.fields) (sym made);
      guards = λ f d below. ap (λ (r : GuardRow). r.guard.0) (c.in-Ok.ensures.guards f d (subst (λ n. f < n) (ap (λ (l : Layout). l.fields) made) below));
      marks = λ f d below. ap (λ (r : GuardRow). r.transient) (c.in-Ok.ensures.guards f d (subst (λ n. f < n) (ap (λ (l : Layout). l.fields) made) below)) ∙ sym (not_not (is_transient_of c.args.schema.now f));
      values = λ f below. c.in-Ok.ensures.heap f (subst (λ n. f < n) (ap (λ (l : Layout). l.fields) made) below);
      last_is = refl;
    })

pub returns-in-Ok-clause-calls : goal.returns-in-Ok-clause-calls
returns-in-Ok-clause-calls c =
    let schema = c.args.schema.now in
    let wanted : Layout = layout_with schema c.args.lanes c.args.capacity in
    let l : Layout = c.in-Some.layout in
    let is : IsLayoutOf schema l = c.in-Some.ensures.schema in
    let same : l ≡ wanted = λ i. record { objects = is.objects i; fields = is.fields i; lanes = c.in-Some.ensures.lanes i; capacity = c.in-Some.ensures.capacity i } in
    let size : c.size-size.result ≡ size_of wanted = c.size-size.ensures ∙ ap size_of same in
    ap device_of c.in_ok-adopt-in-Ok.ensures.disk ∙ c.in-Ok.ensures.calls
    ∙ (λ i. after (format_calls (c.in-Ok.ensures.layout i) schema) (device_of (c.in_ok-disk.ensures i)))
    ∙ ap (λ n. after (format_calls wanted schema) (device_of (fresh (replicate n 0)))) size

pub returns-in-Ok-clause-of_schema : goal.returns-in-Ok-clause-of_schema
returns-in-Ok-clause-of_schema c =
    let l : Layout = c.in-Some.layout in
    let is : IsLayoutOf c.args.schema.now l = c.in-Some.ensures.schema in
    let made : c.in-Ok.made.layout ≡ l = c.in-Ok.ensures.layout
    ∙ (λ i. record { objects = sym is.objects i; fields = sym is.fields i; lanes = sym c.in-Some.ensures.lanes i; capacity = sym c.in-Some.ensures.capacity i }) in
    let calls = subst (λ (k : Layout). device_of c.in-Ok.made.disk ≡ after (format_calls k c.args.schema.now) (device_of c.in_ok-disk.disk)) made c.in-Ok.ensures.calls in
    subst (IsDiskOf c.args.schema.now) (sym c.in_ok-adopt-in-Ok.ensures.disk)
    (made_of c.args.schema.now l c.size-size.result c.in-Ok.made.disk is (omega (arith, c.size-size.ensures))
    (calls ∙ ap (λ (m : Memory). after (format_calls l c.args.schema.now) (device_of m)) c.in_ok-disk.ensures))
