use Rattle.std.proofs.Common.{◌<◌, ℕ, inl, inr, refl, sym, subst}
use Rattle.heap_model.specs.declared.event.Event.{Event}
use Rattle.heap_model.specs.Events.{MayDo, IsEventOf}
use Rattle.block_disk.specs.Memory.{Memory}
use Rattle.script_machine.specs.declared.answer.Answer.TheVariants.{Refused}
use Rattle.script_machine.specs.Machine.{Does, RefusesRecord, Running}
use Rattle.script_machine.specs.States.{Live}
use Rattle.heap_model.specs.History.{logged}
use Rattle.durable.specs.Store.{Parts}
use Rattle.script_monitors.specs.Table.{Table, lanes_of, setting_of, state_of, IsStepOf}
use Rattle.script_machine.proofs.AgreementLemmas.{goes-on, refused-event, step-event}
use Rattle.script_machine.proofs.StoreLemmas.{live, refused-line}
use Rattle.script_machine.proofs.running.Running.perform.Goals as goal

pub refused_record-requires : goal.refused_record-requires
refused_record-requires c =
    let a : Table = c.self.inside.monitors in
    let t : ℕ = c.args.thread.0 in
    let e : Event = c.args.event.now in
    let lane : t < lanes_of a = subst (λ (m : Live). t < lanes_of m.monitors) (sym c.self.view_is) c.requires.lane in
    let may : MayDo (setting_of a) (state_of a) t e = subst (λ (m : Live). MayDo (setting_of m.monitors) (state_of m.monitors) t e) (sym c.self.view_is) c.requires.allowed in
    let is : IsEventOf (setting_of a) e = step-event a e (subst (λ (m : Live). IsStepOf (setting_of m.monitors) e) (sym c.self.view_is) c.requires.kind) in
    refused-event c.log_law.ensures a c.self.inside.store t e c.in-Err.why c.self.invariant lane may is c.in-Err.ensures.refused

pub keep_record-requires : goal.keep_record-requires
keep_record-requires c = subst (λ (m : Live). IsStepOf (setting_of m.monitors) c.args.event.now) (sym c.self.view_is) c.requires.kind

pub invariant_of-self-2 : goal.invariant_of-self-2
invariant_of-self-2 c =
    let a : Table = c.self.inside.monitors in
    let t : ℕ = c.args.thread.0 in
    let e : Event = c.args.event.now in
    let may : MayDo (setting_of a) (state_of a) t e = subst (λ (m : Live). MayDo (setting_of m.monitors) (state_of m.monitors) t e) (sym c.self.view_is) c.requires.allowed in
    let is : IsEventOf (setting_of a) e = step-event a e (subst (λ (m : Live). IsStepOf (setting_of m.monitors) e) (sym c.self.view_is) c.requires.kind) in
    goes-on a c.perform.new.self c.self.inside.store c.keep_record.new.store t e c.self.invariant may is c.in_default.ensures.kept (c.keep_record.ensures.running c.self.invariant.running)
    c.in_default-perform.ensures.ok

pub returns-in-Err : goal.returns-in-Err
returns-in-Err c =
    let a : Table = c.self.inside.monitors in
    let x : Parts Memory = c.self.inside.store in
    let y : Parts Memory = c.keep_record.new.store in
    let t : ℕ = c.args.thread.0 in
    let e : Event = c.args.event.now in
    let may : MayDo (setting_of a) (state_of a) t e = subst (λ (m : Live). MayDo (setting_of m.monitors) (state_of m.monitors) t e) (sym c.self.view_is) c.requires.allowed in
    let is : IsEventOf (setting_of a) e = step-event a e (subst (λ (m : Live). IsStepOf (setting_of m.monitors) e) (sym c.self.view_is) c.requires.kind) in
    subst (λ (m : Live). Does (Running m) (Refused c.refused_record.result) (Running (live a y)) m t c.args.said e) c.self.view_is
    (record {
      allowed = may;
      named = is;
      outcome = inr (refused-line a x y (λ s p reason. RefusesRecord x s p t (logged (setting_of a) e) reason) c.in-Err.why c.refused_record.result c.refused_record.ensures c.in-Err.ensures.err c.in-Err.ensures.refused);
    })

pub returns : goal.returns
returns c =
    let a : Table = c.self.inside.monitors in
    let b : Table = c.perform.new.self in
    let y : Parts Memory = c.keep_record.new.store in
    let t : ℕ = c.args.thread.0 in
    let e : Event = c.args.event.now in
    let may : MayDo (setting_of a) (state_of a) t e = subst (λ (m : Live). MayDo (setting_of m.monitors) (state_of m.monitors) t e) (sym c.self.view_is) c.requires.allowed in
    let is : IsEventOf (setting_of a) e = step-event a e (subst (λ (m : Live). IsStepOf (setting_of m.monitors) e) (sym c.self.view_is) c.requires.kind) in
    subst (λ (m : Live). Does (Running m) c.args.said (Running (live b y)) m t c.args.said e) c.self.view_is
    (record {
      allowed = may;
      named = is;
      outcome = inl (record { live = live b y; answers = refl; runs = refl; after = c.in_default-perform.ensures.ok; kept = c.in_default.ensures.kept });
    })
