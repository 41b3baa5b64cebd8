use Rattle.std.proofs.Common.{ℕ, Result, MatchResult, refl, sym, ap, subst}
use Rattle.heap_model.specs.declared.ids.ObjectId.{ObjectId}
use Rattle.heap_model.specs.declared.event.Event.{Event}
use Rattle.script_machine.specs.declared.answer.Answer.{Answer}
use Rattle.script_machine.specs.declared.answer.Answer.TheVariants.{Waiting, Refused}
use Rattle.script_machine.specs.declared.answer.Refusal.{Refusal}
use Rattle.script_monitors.specs.declared.refusal.MonitorRefusal.{MonitorRefusal}
use Rattle.script_machine.specs.Lookups.{object_of}
use Rattle.script_machine.specs.States.{Live}
use Rattle.script_machine.specs.Machine as machine
use Rattle.script_machine.proofs.PlanLemmas.{IfOk-map, PlansWait, looked_up, Follows, waited}
use Rattle.script_machine.proofs.running.Running.wait.Goals as goal

pub returns-in-Ok-may_wait : goal.returns-in-Ok-may_wait
returns-in-Ok-may_wait c =
    let m : Live = c.args.self.now in
    let t : ℕ = c.args.thread.0 in
    let old : machine.MachineState = machine.Running m in
    let new : machine.MachineState = machine.Running c.perform.new.self in
    let plans : PlansWait m.monitors t c.in-Ok.object c.may_wait.result = subst (λ (x : Live). PlansWait x.monitors t c.in-Ok.object c.may_wait.result) c.self.view_is
    (record { ok = c.may_wait.ensures.ok; not_held = c.may_wait.ensures.not_held }) in
    IfOk-map c.perform.result (λ answer does. looked_up old answer new object_of m m.monitors.schema.objects c.args.name.now t c.object.result (machine.Waits old answer new m t) c.object.ensures.named
    (subst (λ (r : Result ObjectId Refusal). MatchResult r (machine.Waits old answer new m t) (machine.Refuses old answer new)) (sym c.in-Ok.is)
    (waited old answer new m t c.in-Ok.object c.may_wait.result plans (subst (λ (p : Result Event MonitorRefusal). Follows old answer new m t Waiting p) (sym c.in-Ok-may_wait.is) does)))) c.perform.ensures

pub returns-in-Err-may_wait : goal.returns-in-Err-may_wait
returns-in-Err-may_wait c =
    let m : Live = c.args.self.now in
    let t : ℕ = c.args.thread.0 in
    let old : machine.MachineState = machine.Running m in
    let said : Answer = Refused c.from.result in
    let plans : PlansWait m.monitors t c.in-Ok.object c.may_wait.result = subst (λ (x : Live). PlansWait x.monitors t c.in-Ok.object c.may_wait.result) c.self.view_is
    (record { ok = c.may_wait.ensures.ok; not_held = c.may_wait.ensures.not_held }) in
    looked_up old said old object_of m m.monitors.schema.objects c.args.name.now t c.object.result (machine.Waits old said old m t) c.object.ensures.named
    (subst (λ (r : Result ObjectId Refusal). MatchResult r (machine.Waits old said old m t) (machine.Refuses old said old)) (sym c.in-Ok.is)
    (waited old said old m t c.in-Ok.object c.may_wait.result plans (subst (λ (p : Result Event MonitorRefusal). Follows old said old m t Waiting p) (sym c.in-Err-may_wait.is) (ap Refused c.from.ensures, refl))))

pub returns-in-Err : goal.returns-in-Err
returns-in-Err c =
    let m : Live = c.args.self.now in
    let t : ℕ = c.args.thread.0 in
    let old : machine.MachineState = machine.Running m in
    let said : Answer = Refused c.in-Err.why in
    looked_up old said old object_of m m.monitors.schema.objects c.args.name.now t c.object.result (machine.Waits old said old m t) c.object.ensures.named
    (subst (λ (r : Result ObjectId Refusal). MatchResult r (machine.Waits old said old m t) (machine.Refuses old said old)) (sym c.in-Err.is) (refl, refl))
