use Rattle.std.proofs.Common.{ℕ, Result, MatchResult, refl, sym, ap, subst}
use Rattle.guards.specs.Schema.{names_of}
use Rattle.heap_model.specs.declared.ids.FieldId.{FieldId}
use Rattle.heap_model.specs.declared.event.Event.{Event}
use Rattle.script_machine.specs.declared.answer.Answer.{Answer}
use Rattle.script_machine.specs.declared.answer.Answer.TheVariants.{Done, Refused}
use Rattle.script_machine.specs.declared.answer.Refusal.{Refusal}
use Rattle.script_monitors.specs.declared.refusal.MonitorRefusal.{MonitorRefusal}
use Rattle.script_machine.specs.Lookups.{field_of}
use Rattle.script_machine.specs.States.{Live}
use Rattle.script_machine.specs.Machine as machine
use Rattle.script_machine.proofs.PlanLemmas.{IfOk-map, PlansStore, looked_up, Follows, stored}
use Rattle.script_machine.proofs.running.Running.store.Goals as goal

pub returns-in-Ok-may_store : goal.returns-in-Ok-may_store
returns-in-Ok-may_store c =
    let m : Live = c.args.self.now in
    let t : ℕ = c.args.thread.0 in
    let old : machine.MachineState = machine.Running m in
    let new : machine.MachineState = machine.Running c.perform.new.self in
    let plans : PlansStore m.monitors t c.in-Ok.field c.args.value c.may_store.result = subst (λ (x : Live). PlansStore x.monitors t c.in-Ok.field c.args.value c.may_store.result) c.self.view_is
    (record { ok = c.may_store.ensures.ok; not_held = c.may_store.ensures.not_held }) in
    IfOk-map c.perform.result (λ answer does. looked_up old answer new field_of m (names_of m.monitors.schema.fields) c.args.name.now t c.field.result (λ f. machine.Stores old answer new m t f c.args.value) c.field.ensures.named
    (subst (λ (r : Result FieldId Refusal). MatchResult r (λ f. machine.Stores old answer new m t f c.args.value) (machine.Refuses old answer new)) (sym c.in-Ok.is)
    (stored old answer new m t c.in-Ok.field c.args.value c.may_store.result plans (subst (λ (p : Result Event MonitorRefusal). Follows old answer new m t Done p) (sym c.in-Ok-may_store.is) does)))) c.perform.ensures

pub returns-in-Err-may_store : goal.returns-in-Err-may_store
returns-in-Err-may_store c =
    let m : Live = c.args.self.now in
    let t : ℕ = c.args.thread.0 in
    let old : machine.MachineState = machine.Running m in
    let said : Answer = Refused c.from.result in
    let plans : PlansStore m.monitors t c.in-Ok.field c.args.value c.may_store.result = subst (λ (x : Live). PlansStore x.monitors t c.in-Ok.field c.args.value c.may_store.result) c.self.view_is
    (record { ok = c.may_store.ensures.ok; not_held = c.may_store.ensures.not_held }) in
    looked_up old said old field_of m (names_of m.monitors.schema.fields) c.args.name.now t c.field.result (λ f. machine.Stores old said old m t f c.args.value) c.field.ensures.named
    (subst (λ (r : Result FieldId Refusal). MatchResult r (λ f. machine.Stores old said old m t f c.args.value) (machine.Refuses old said old)) (sym c.in-Ok.is)
    (stored old said old m t c.in-Ok.field c.args.value c.may_store.result plans (subst (λ (p : Result Event MonitorRefusal). Follows old said old m t Done p) (sym c.in-Err-may_store.is) (ap Refused c.from.ensures, refl))))

pub returns-in-Err : goal.returns-in-Err
returns-in-Err c =
    let m : Live = c.args.self.now in
    let t : ℕ = c.args.thread.0 in
    let old : machine.MachineState = machine.Running m in
    let said : Answer = Refused c.in-Err.why in
    looked_up old said old field_of m (names_of m.monitors.schema.fields) c.args.name.now t c.field.result (λ f. machine.Stores old said old m t f c.args.value) c.field.ensures.named
    (subst (λ (r : Result FieldId Refusal). MatchResult r (λ f. machine.Stores old said old m t f c.args.value) (machine.Refuses old said old)) (sym c.in-Err.is) (refl, refl))
