use Rattle.std.proofs.Common.{◌≡◌, ◌≢◌, ◌≤◌, inl, inr, sym, ap, subst, Ok, ◌∙◌, arith}
use Rattle.heap_model.specs.declared.ids.ObjectId.{ObjectId}
use Rattle.session.specs.declared.error.SessionError.TheVariants.{UnknownObject}
use Rattle.thread_steps.specs.Views.{plan}
use Rattle.ledger.specs.Transfers.{First, HasMadeUnder, HasPaid, IsRefusedAMonitor, Second}
use Rattle.ledger.specs.Holding.{HasBoth}
use Rattle.ledger.specs.declared.moving.Made.{Made}
use Rattle.ledger.specs.declared.moving.Made.TheVariants.{NoAccount}
use Rattle.ledger.proofs.Both.{apart_of, held_on, lacks_of, no_needs}
use Rattle.ledger.proofs.moving.transfer.Goals as goal

-- the first monitor is refused
pub returns-in-Err-clause-nothing : goal.returns-in-Err-clause-nothing
returns-in-Err-clause-nothing g c = λ _. c.in-Err.ensures.missed.nothing

pub returns-in-Err-clause-missing : goal.returns-in-Err-clause-missing
returns-in-Err-clause-missing g c = λ is. elim is [
  | inl e ↦ absurd cc
  | inr e ↦ (let u : c.in-Err.refusal ≡ UnknownObject = cc in
      lacks_of g.J.Joint.home c.args.order (inl (subst (λ (m : ObjectId × ObjectId). (plan g.J.Joint.home).objects ≤ m.0.0) c.monitors.ensures (c.in-Err.ensures.missed.unknown u))))
]

pub returns-in-Err-clause-refused : goal.returns-in-Err-clause-refused
returns-in-Err-clause-refused g c = subst (λ (m : ObjectId × ObjectId). IsRefusedAMonitor g.J.Joint.home m c.args.thread.now c.in-Err.refusal) c.monitors.ensures (First c.take.new.thread c.in-Err.ensures.told)

-- the second one is
pub leave-requires : goal.leave-requires
leave-requires g c = c.in-Err-take.ensures.missed.keeps _ c.in_default.ensures.took.taken

pub returns-in-Err-take-clause-nothing : goal.returns-in-Err-take-clause-nothing
returns-in-Err-take-clause-nothing g c = λ _. c.leave.ensures.nothing ∙ c.in-Err-take.ensures.missed.nothing ∙ c.in_default.ensures.took.nothing

pub returns-in-Err-take-clause-missing : goal.returns-in-Err-take-clause-missing
returns-in-Err-take-clause-missing g c = λ is. elim is [
  | inl e ↦ absurd cc
  | inr e ↦ (let u : c.in-Err-take.refusal ≡ UnknownObject = cc in
      lacks_of g.J.Joint.home c.args.order (inr (subst (λ (m : ObjectId × ObjectId). (plan g.J.Joint.home).objects ≤ m.1.0) c.monitors.ensures (c.in-Err-take.ensures.missed.unknown u))))
]

pub returns-in-Err-take-clause-refused : goal.returns-in-Err-take-clause-refused
returns-in-Err-take-clause-refused g c = subst (λ (m : ObjectId × ObjectId). IsRefusedAMonitor g.J.Joint.home m c.args.thread.now c.in-Err-take.refusal) c.monitors.ensures
    (Second c.take.new.thread c.take-2.new.thread c.in_default.ensures.told c.in-Err-take.ensures.told)

-- both were taken
pub pay-made-requires-clause-both : goal.pay-made-requires-clause-both
pay-made-requires-clause-both g c = subst (λ (m : ObjectId × ObjectId). HasBoth g.J.Joint.home c.take-2.new.thread m) c.monitors.ensures
    (c.in_default-take.ensures.took.keeps _ c.in_default.ensures.took.taken, c.in_default-take.ensures.took.taken)

pub pay-made-requires-clause-room : goal.pay-made-requires-clause-room
pay-made-requires-clause-room g c = (let a = no_needs c.args.thread.now c.requires.outside in let b = c.in_default.ensures.took.needs in let d = c.in_default-take.ensures.took.needs in omega arith)

pub leave-requires-2 : goal.leave-requires-2
leave-requires-2 g c = held_on g.J.Joint.home c.take-2.new.thread c.pay-made.new.thread _ c.pay-made.ensures.holds c.in_default-take.ensures.took.taken

pub leave-requires-3 : goal.leave-requires-3
leave-requires-3 g c = c.leave-2.ensures.others _
    (subst (λ (m : ObjectId × ObjectId). m.1.0 ≢ m.0.0) (sym c.monitors.ensures) (apart_of c.args.order c.requires.apart))
    (held_on g.J.Joint.home c.take-2.new.thread c.pay-made.new.thread _ c.pay-made.ensures.holds (c.in_default-take.ensures.took.keeps _ c.in_default.ensures.took.taken))

pub returns-clause-made : goal.returns-clause-made
returns-clause-made g c = subst (λ (m : ObjectId × ObjectId). HasMadeUnder g.J.Joint.home m c.args.thread.now c.args.order c.leave-3.new.thread c.pay-made.result) c.monitors.ensures (record {
  taken = c.take-2.new.thread;
  has_taken = record { outside = c.requires.outside; first = c.take.new.thread; enters = c.in_default.ensures.told; enters_too = c.in_default-take.ensures.told };
  done = c.pay-made.new.thread;
  has_paid = c.pay-made.ensures.paid;
  has_left = record { first = c.leave-2.new.thread; exits = c.leave-2.ensures.told; exits_too = c.leave-3.ensures.told };
})

pub returns-clause-nothing : goal.returns-clause-nothing
returns-clause-nothing g c = λ other. c.leave-3.ensures.nothing ∙ c.leave-2.ensures.nothing
    ∙ c.pay-made.ensures.nothing (λ is. other (ap (λ (m : Made). Ok m) is)) ∙ c.in_default-take.ensures.took.nothing ∙ c.in_default.ensures.took.nothing

pub returns-clause-missing : goal.returns-clause-missing
returns-clause-missing g c = λ is. elim is [
  | inl e ↦ (let u : c.pay-made.result ≡ NoAccount = cc in subst (λ (m : Made). HasPaid g.J.Joint.home c.take-2.new.thread c.args.order c.pay-made.new.thread m) u c.pay-made.ensures.paid)
  | inr e ↦ absurd cc
]
