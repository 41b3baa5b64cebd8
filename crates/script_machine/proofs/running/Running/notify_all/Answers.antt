use Rattle.std.proofs.Common.{rules, ◌≡◌, ◌≢◌, ◌<◌, ℕ, List, Some, Result, MatchResult, sym, ap, refl, subst, true, false}
use Rattle.heap_model.specs.declared.ids.ObjectId.{ObjectId}
use Rattle.heap_model.specs.State.{Awake}
use Rattle.heap_model.specs.declared.ids.Lane.{Lane}
use Rattle.heap_model.specs.declared.event.Event.TheVariants.{NotifyAll}
use Rattle.script_monitors.specs.Table.{IsAfter}
use Rattle.script_machine.specs.declared.answer.Answer.{Answer}
use Rattle.script_machine.specs.declared.answer.Answer.TheVariants.{Woke, Refused}
use Rattle.script_machine.specs.declared.answer.Refusal.{Refusal}
use Rattle.script_machine.specs.declared.answer.Refusal.TheVariants.{NotHeld}
use Rattle.script_machine.specs.Lookups.{object_of}
use Rattle.script_machine.specs.States.{Live}
use Rattle.script_monitors.specs.Table.{Table, lanes_of, state_of}
use Rattle.script_machine.specs.Machine as machine
use Rattle.script_machine.proofs.PlanLemmas.{looked_up, not_notified_all, notified_all}
use Rattle.script_machine.proofs.StoreLemmas.{live}
use Rattle.script_machine.proofs.AgreementLemmas.{goes-on}
use Rattle.script_monitors.specs.WaitSets.{wait_set}
use Rattle.guards.specs.Schema.{object_count}
use Rattle.script_machine.proofs.running.Running.notify_all.Goals as goal

pub returns : goal.returns
returns c =
    let m : Live = c.args.self.now in
    let m0 : Live = live c.self.inside.monitors c.self.inside.store in
    let t : ℕ = c.args.thread.0 in
    let o : ObjectId = c.in-Ok.object in
    let table = c.notify_all.new.self in
    let old : machine.MachineState = machine.Running m in
    let new : machine.MachineState = machine.Running (live table c.self.inside.store) in
    let said : Answer = Woke c.in_ok-woken.woken in
    let w = c.in_ok-woken.ensures in
    let awake : (state_of m0.monitors).waiting t ≡ Awake = subst (λ (z : Live). (state_of z.monitors).waiting t ≡ Awake) (sym c.self.view_is) c.in-Ok.ensures.awake in
    let mine : (state_of m0.monitors).owner o.0 ≡ Some t = c.owns.ensures.0 (search rules) in
    let within : o.0 < object_count m0.monitors.schema = subst (λ (z : Live). o.0 < object_count z.monitors.schema) (sym c.self.view_is) c.in-Ok.ensures.within in
    let woke : machine.NotifiesAll old said new m t o = subst (λ (z : Live). machine.NotifiesAll (machine.Running z) said new z t o) c.self.view_is
    (notified_all (machine.Running m0) said new m0 t o table mine refl within (w.allowed awake mine) (ap Some w.woken) (subst (λ (us : List Lane). IsAfter m0.monitors t (NotifyAll o us) table) w.woken w.after)) in
    looked_up old said new object_of m m.monitors.schema.objects c.args.name.now t c.object.result (machine.NotifiesAll old said new m t) c.object.ensures.named
    (subst (λ (r : Result ObjectId Refusal). MatchResult r (machine.NotifiesAll old said new m t) (machine.Refuses old said new)) (sym c.in-Ok.is) woke)

pub invariant_of-self-2 : goal.invariant_of-self-2
invariant_of-self-2 c =
    let a : Table = c.self.inside.monitors in
    let t : ℕ = c.args.thread.0 in
    let o : ObjectId = c.in-Ok.object in
    let awake : (state_of a).waiting t ≡ Awake = subst (λ (z : Live). (state_of z.monitors).waiting t ≡ Awake) (sym c.self.view_is) c.in-Ok.ensures.awake in
    let mine : (state_of a).owner o.0 ≡ Some t = c.owns.ensures.0 (search rules) in
    let within : o.0 < object_count a.schema = subst (λ (z : Live). o.0 < object_count z.monitors.schema) (sym c.self.view_is) c.in-Ok.ensures.within in
    goes-on a c.notify_all.new.self c.self.inside.store c.self.inside.store t (NotifyAll o (wait_set (lanes_of a) (state_of a) o.0)) c.self.invariant
    (c.in_ok-woken.ensures.allowed awake mine) within refl c.self.invariant.running
    (subst (λ (us : List Lane). IsAfter a t (NotifyAll o us) c.notify_all.new.self) c.in_ok-woken.ensures.woken c.in_ok-woken.ensures.after)

pub returns-then-not-owns : goal.returns-then-not-owns
returns-then-not-owns c =
    let m : Live = c.args.self.now in
    let t : ℕ = c.args.thread.0 in
    let o : ObjectId = c.in-Ok.object in
    let old : machine.MachineState = machine.Running m in
    let said : Answer = Refused NotHeld in
    let other : (state_of m.monitors).owner o.0 ≢ Some t = subst (λ (z : Live). (state_of z.monitors).owner o.0 ≢ Some t) c.self.view_is
    (λ mine. absurd (let yes : c.owns.result ≡ true = c.owns.ensures.1 mine in let no : c.owns.result ≡ false = c.if-not-owns.true in cc)) in
    looked_up old said old object_of m m.monitors.schema.objects c.args.name.now t c.object.result (machine.NotifiesAll old said old m t) c.object.ensures.named
    (subst (λ (r : Result ObjectId Refusal). MatchResult r (machine.NotifiesAll old said old m t) (machine.Refuses old said old)) (sym c.in-Ok.is) (not_notified_all old said old m t o other (refl, refl)))

pub returns-in-Err : goal.returns-in-Err
returns-in-Err c =
    let m : Live = c.args.self.now in
    let t : ℕ = c.args.thread.0 in
    let old : machine.MachineState = machine.Running m in
    let said : Answer = Refused c.in-Err.why in
    looked_up old said old object_of m m.monitors.schema.objects c.args.name.now t c.object.result (machine.NotifiesAll old said old m t) c.object.ensures.named
    (subst (λ (r : Result ObjectId Refusal). MatchResult r (machine.NotifiesAll old said old m t) (machine.Refuses old said old)) (sym c.in-Err.is) (refl, refl))
