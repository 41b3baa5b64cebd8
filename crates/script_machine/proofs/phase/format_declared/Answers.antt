use Rattle.std.proofs.Common.{◌≡◌, Bool, true, false, IsTrue, IsSome, refl, sym, ◌∙◌, ap, subst}
use Rattle.store_image.specs.Formatting.{layout_with}
use Rattle.heap_model.specs.Past.{no_past}
use Rattle.guards.specs.Schema.{Declarations, first_of}
use Rattle.heap_model.specs.State.{initial_state}
use Rattle.heap_model.specs.Setting.{Setting}
use Rattle.image_parts.specs.Layout.{size_of}
use Rattle.script_machine.specs.declared.answer.Answer.TheVariants.{Formatted}
use Rattle.script_machine.specs.Machine as machine
use Rattle.script_machine.specs.OfSchema.{IsDiskOf, formatted_device}
use Rattle.script_machine.specs.States.{Tells}
use Rattle.script_monitors.specs.Table.{setting_in}
use Rattle.image_parts.specs.declared.layout.Layout.{Layout}
use Rattle.script_machine.specs.Limits.{IsFormattable}
use Rattle.script_machine.proofs.AgreementLemmas.{agree-formatted}
use Rattle.script_machine.proofs.phase.format_declared.Goals as goal

not_both : (b : Bool) → IsTrue b → b ≡ false → ⊥
not_both b is isnt = absurd (let both : true ≡ false = sym is ∙ isnt in cc)

pub returns : goal.returns
returns c =
    let layout : layout_with c.build-schema.result c.in-Some.lanes c.in-Some.capacity ≡ layout_with c.args.declaring c.args.lanes c.args.capacity = λ i. layout_with (c.build-schema.ensures i) (c.in-Some.ensures.same.0 i) (c.in-Some.ensures.same.1 i) in
    let schema = c.in-Ok-new.ensures.schema in
    record {
      refused = λ empty. absurd (not_both c.is_empty.result (c.is_empty.ensures.1 empty) c.if-is_empty.false);
      passed = λ some. record {
        refused = λ bad. absurd (bad (c.format_numbers.ensures.limits.0 (subst IsSome (sym c.in-Some.is) refl)));
        passed = λ good. record {
          live = record { monitors = c.in-Ok-new.monitors; store = c.in-Ok.made.0 };
          answers = ap Formatted (c.in-Ok.ensures.size ∙ ap size_of layout);
          runs = ap machine.Running c.new-running.ensures;
          layout = c.in-Ok.ensures.layout ∙ layout;
          fresh_monitors = record {
            schema_is = schema ∙ c.build-schema.ensures;
            last = c.in-Ok-new.ensures.last;
            lanes_are = c.in-Ok-new.ensures.lanes ∙ c.in-Some.ensures.same.0;
            state = c.in-Ok-new.ensures.state ∙ ap (λ (d : Declarations). initial_state (first_of d)) c.build-schema.ensures;
          };
          tells = subst (λ (s : Setting). Tells c.in-Ok.made.0 s no_past) (λ i. setting_in (sym schema i) (sym c.in-Ok-new.ensures.last i)) c.in-Ok.ensures.tells;
          running = c.in-Ok.ensures.running;
          made = c.in-Ok.ensures.calls ∙ (λ i. formatted_device (c.build-schema.ensures i) (layout i));
          of_schema = subst (λ (d : Declarations). IsDiskOf d c.in-Ok.made.0.disk) c.build-schema.ensures c.in-Ok.ensures.of_schema;
        };
      };
    }

pub format_store-requires : goal.format_store-requires
format_store-requires c =
    let same = c.in-Some.ensures.same in
    let good : IsFormattable c.args.lanes c.args.capacity = c.format_numbers.ensures.limits.0 (subst IsSome (sym c.in-Some.is) refl) in
    subst (λ n. IsFormattable n c.in-Some.capacity) (sym same.0) (subst (λ n. IsFormattable c.args.lanes n) (sym same.1) good)

pub new-running-requires : goal.new-running-requires
new-running-requires c =
    let monitors = c.in-Ok-new.ensures in
    let store = c.in-Ok.ensures in
    agree-formatted c.build-schema.result c.in-Ok-new.monitors c.in-Ok.made.0 monitors.schema monitors.last monitors.state store.tells
    (ap (λ (l : Layout). l.lanes) store.layout ∙ sym monitors.lanes) store.running store.of_schema
