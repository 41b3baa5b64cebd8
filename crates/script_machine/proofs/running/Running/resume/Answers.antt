use Rattle.std.proofs.Common.{◌<◌, ℕ, Result, refl, sym, ap, subst, arith, rules}
use Rattle.heap_model.specs.declared.event.Event.{Event}
use Rattle.script_machine.specs.declared.answer.Answer.{Answer}
use Rattle.script_machine.specs.declared.answer.Answer.TheVariants.{Done, Refused}
use Rattle.script_monitors.specs.declared.refusal.MonitorRefusal.{MonitorRefusal}
use Rattle.script_machine.specs.States.{Live}
use Rattle.script_monitors.specs.Table.{lanes_of}
use Rattle.script_machine.specs.Machine as machine
use Rattle.script_machine.proofs.PlanLemmas.{IfOk-map, PlansResume, Follows, resumed}
use Rattle.script_machine.proofs.running.Running.resume.Goals as goal

pub returns-in-Ok : goal.returns-in-Ok
returns-in-Ok c =
    let m : Live = c.args.self.now in
    let t : ℕ = c.args.thread.0 in
    let old : machine.MachineState = machine.Running m in
    let new : machine.MachineState = machine.Running c.perform.new.self in
    let there : t < lanes_of m.monitors = subst (λ (x : Live). t < lanes_of x.monitors) c.self.view_is (c.has_lane.ensures.0 (search rules)) in
    let may = c.may_resume.ensures in
    let plans : PlansResume m.monitors t c.may_resume.result = subst (λ (x : Live). PlansResume x.monitors t c.may_resume.result) c.self.view_is
    (record { not_waiting = may.not_waiting; in_set = may.in_set; held = may.held; worn = may.worn; ok = may.ok }) in
    IfOk-map c.perform.result (λ answer does. record {
      refused = λ beyond. absurd (omega (arith, there, beyond));
      passed = λ _. resumed old answer new m t c.may_resume.result plans (subst (λ (p : Result Event MonitorRefusal). Follows old answer new m t Done p) (sym c.in-Ok.is) does);
    }) c.perform.ensures

pub returns-in-Err : goal.returns-in-Err
returns-in-Err c =
    let m : Live = c.args.self.now in
    let t : ℕ = c.args.thread.0 in
    let old : machine.MachineState = machine.Running m in
    let said : Answer = Refused c.from.result in
    let there : t < lanes_of m.monitors = subst (λ (x : Live). t < lanes_of x.monitors) c.self.view_is (c.has_lane.ensures.0 (search rules)) in
    let may = c.may_resume.ensures in
    let plans : PlansResume m.monitors t c.may_resume.result = subst (λ (x : Live). PlansResume x.monitors t c.may_resume.result) c.self.view_is
    (record { not_waiting = may.not_waiting; in_set = may.in_set; held = may.held; worn = may.worn; ok = may.ok }) in
    record {
      refused = λ beyond. absurd (omega (arith, there, beyond));
      passed = λ _. resumed old said old m t c.may_resume.result plans (subst (λ (p : Result Event MonitorRefusal). Follows old said old m t Done p) (sym c.in-Err.is) (ap Refused c.from.ensures, refl));
    }
