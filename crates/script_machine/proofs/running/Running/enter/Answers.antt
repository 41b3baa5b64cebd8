use Rattle.std.proofs.Common.{ℕ, Result, MatchResult, refl, sym, ap, subst}
use Rattle.heap_model.specs.declared.ids.ObjectId.{ObjectId}
use Rattle.heap_model.specs.declared.event.Event.{Event}
use Rattle.script_machine.specs.declared.answer.Answer.{Answer}
use Rattle.script_machine.specs.declared.answer.Answer.TheVariants.{Done, Refused}
use Rattle.script_machine.specs.declared.answer.Refusal.{Refusal}
use Rattle.script_monitors.specs.declared.refusal.MonitorRefusal.{MonitorRefusal}
use Rattle.script_machine.specs.Lookups.{object_of}
use Rattle.script_machine.specs.States.{Live}
use Rattle.script_machine.specs.Machine as machine
use Rattle.script_machine.proofs.PlanLemmas.{IfOk-map, PlansEnter, looked_up, Follows, entered}
use Rattle.script_machine.proofs.running.Running.enter.Goals as goal

pub returns-in-Ok-may_enter : goal.returns-in-Ok-may_enter
returns-in-Ok-may_enter c =
    let m : Live = c.args.self.now in
    let t : ℕ = c.args.thread.0 in
    let old : machine.MachineState = machine.Running m in
    let new : machine.MachineState = machine.Running c.perform.new.self in
    let plans : PlansEnter m.monitors t c.in-Ok.object c.may_enter.result = subst (λ (x : Live). PlansEnter x.monitors t c.in-Ok.object c.may_enter.result) c.self.view_is
    (record { free = c.may_enter.ensures.free; nested = c.may_enter.ensures.nested; held = c.may_enter.ensures.held; worn = c.may_enter.ensures.worn }) in
    IfOk-map c.perform.result (λ answer does. looked_up old answer new object_of m m.monitors.schema.objects c.args.name.now t c.object.result (machine.Enters old answer new m t) c.object.ensures.named
    (subst (λ (r : Result ObjectId Refusal). MatchResult r (machine.Enters old answer new m t) (machine.Refuses old answer new)) (sym c.in-Ok.is)
    (entered old answer new m t c.in-Ok.object c.may_enter.result plans (subst (λ (p : Result Event MonitorRefusal). Follows old answer new m t Done p) (sym c.in-Ok-may_enter.is) does)))) c.perform.ensures

pub returns-in-Err-may_enter : goal.returns-in-Err-may_enter
returns-in-Err-may_enter c =
    let m : Live = c.args.self.now in
    let t : ℕ = c.args.thread.0 in
    let old : machine.MachineState = machine.Running m in
    let said : Answer = Refused c.from.result in
    let plans : PlansEnter m.monitors t c.in-Ok.object c.may_enter.result = subst (λ (x : Live). PlansEnter x.monitors t c.in-Ok.object c.may_enter.result) c.self.view_is
    (record { free = c.may_enter.ensures.free; nested = c.may_enter.ensures.nested; held = c.may_enter.ensures.held; worn = c.may_enter.ensures.worn }) in
    looked_up old said old object_of m m.monitors.schema.objects c.args.name.now t c.object.result (machine.Enters old said old m t) c.object.ensures.named
    (subst (λ (r : Result ObjectId Refusal). MatchResult r (machine.Enters old said old m t) (machine.Refuses old said old)) (sym c.in-Ok.is)
    (entered old said old m t c.in-Ok.object c.may_enter.result plans (subst (λ (p : Result Event MonitorRefusal). Follows old said old m t Done p) (sym c.in-Err-may_enter.is) (ap Refused c.from.ensures, refl))))

pub returns-in-Err : goal.returns-in-Err
returns-in-Err c =
    let m : Live = c.args.self.now in
    let t : ℕ = c.args.thread.0 in
    let old : machine.MachineState = machine.Running m in
    let said : Answer = Refused c.in-Err.why in
    looked_up old said old object_of m m.monitors.schema.objects c.args.name.now t c.object.result (machine.Enters old said old m t) c.object.ensures.named
    (subst (λ (r : Result ObjectId Refusal). MatchResult r (machine.Enters old said old m t) (machine.Refuses old said old)) (sym c.in-Err.is) (refl, refl))
