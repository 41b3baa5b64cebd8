use Rattle.std.proofs.Common.{ℕ, Result, MatchResult, refl, sym, ap, subst}
use Rattle.guards.specs.Schema.{names_of}
use Rattle.heap_model.specs.declared.ids.FieldId.{FieldId}
use Rattle.script_machine.specs.declared.answer.Answer.{Answer}
use Rattle.script_machine.specs.declared.answer.Answer.TheVariants.{Value, Refused}
use Rattle.script_machine.specs.declared.answer.Refusal.{Refusal}
use Rattle.script_machine.specs.Lookups.{field_of}
use Rattle.script_machine.specs.States.{Live}
use Rattle.script_machine.specs.Machine as machine
use Rattle.script_machine.proofs.PlanLemmas.{PlansLoad, TellsValue, looked_up, loaded}
use Rattle.script_machine.proofs.running.Running.load.Goals as goal

pub returns-in-Ok-load : goal.returns-in-Ok-load
returns-in-Ok-load c =
    let m : Live = c.args.self.now in
    let t : ℕ = c.args.thread.0 in
    let old : machine.MachineState = machine.Running m in
    let said : Answer = Value c.in-Ok-load.value in
    let plans : PlansLoad m.monitors t c.in-Ok.field c.load.result = subst (λ (x : Live). PlansLoad x.monitors t c.in-Ok.field c.load.result) c.self.view_is
    (record { ok = c.load.ensures.ok; not_held = c.load.ensures.not_held }) in
    looked_up old said old field_of m (names_of m.monitors.schema.fields) c.args.name.now t c.field.result (machine.Loads old said old m t) c.field.ensures.named
    (subst (λ (r : Result FieldId Refusal). MatchResult r (machine.Loads old said old m t) (machine.Refuses old said old)) (sym c.in-Ok.is)
    (loaded old said old m t c.in-Ok.field c.load.result plans (subst (TellsValue old said old) (sym c.in-Ok-load.is) (refl, refl))))

pub returns-in-Err-load : goal.returns-in-Err-load
returns-in-Err-load c =
    let m : Live = c.args.self.now in
    let t : ℕ = c.args.thread.0 in
    let old : machine.MachineState = machine.Running m in
    let said : Answer = Refused c.from.result in
    let plans : PlansLoad m.monitors t c.in-Ok.field c.load.result = subst (λ (x : Live). PlansLoad x.monitors t c.in-Ok.field c.load.result) c.self.view_is
    (record { ok = c.load.ensures.ok; not_held = c.load.ensures.not_held }) in
    looked_up old said old field_of m (names_of m.monitors.schema.fields) c.args.name.now t c.field.result (machine.Loads old said old m t) c.field.ensures.named
    (subst (λ (r : Result FieldId Refusal). MatchResult r (machine.Loads old said old m t) (machine.Refuses old said old)) (sym c.in-Ok.is)
    (loaded old said old m t c.in-Ok.field c.load.result plans (subst (TellsValue old said old) (sym c.in-Err-load.is) (ap Refused c.from.ensures, refl))))

pub returns-in-Err : goal.returns-in-Err
returns-in-Err c =
    let m : Live = c.args.self.now in
    let t : ℕ = c.args.thread.0 in
    let old : machine.MachineState = machine.Running m in
    let said : Answer = Refused c.in-Err.why in
    looked_up old said old field_of m (names_of m.monitors.schema.fields) c.args.name.now t c.field.result (machine.Loads old said old m t) c.field.ensures.named
    (subst (λ (r : Result FieldId Refusal). MatchResult r (machine.Loads old said old m t) (machine.Refuses old said old)) (sym c.in-Err.is) (refl, refl))
