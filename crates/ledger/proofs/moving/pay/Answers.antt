use Rattle.std.proofs.Common.{rules, ℕ, ◌+◌, ◌^◌, inl, inr, refl, subst, Ok, ◌∙◌, arith}
use Rattle.std.proofs.lemmas.Bool.{cases_lt}
use Rattle.session.specs.Calls.{StoresAs}
use Rattle.ledger.specs.Transfers.{balance_of, monitor_of}
use Rattle.ledger.proofs.Both.{both_of, held_on}
use Rattle.ledger.proofs.moving.pay.Goals as goal

-- the first balance
pub read-requires : goal.read-requires
read-requires g c = (both_of g.J.Joint.home c.args.thread.now c.args.order c.requires.both).0

pub returns-in_default-clause-paid : goal.returns-in_default-clause-paid
returns-in_default-clause-paid g c = inl (c.in_default.ensures.none refl)

pub returns-in_default-clause-nothing : goal.returns-in_default-clause-nothing
returns-in_default-clause-nothing g c = λ _. c.in_default.ensures.stays.nothing

pub returns-in_default-clause-holds : goal.returns-in_default-clause-holds
returns-in_default-clause-holds g c = c.in_default.ensures.stays.holds

-- the second one
pub read-requires-2 : goal.read-requires-2
read-requires-2 g c = held_on g.J.Joint.home c.args.thread.now c.read.new.thread (monitor_of c.args.order.to) c.in-Some.ensures.stays.holds (both_of g.J.Joint.home c.args.thread.now c.args.order c.requires.both).1

pub returns-in_default-read-clause-paid : goal.returns-in_default-read-clause-paid
returns-in_default-read-clause-paid g c = inr (c.in_default-read.ensures.none refl)

pub returns-in_default-read-clause-nothing : goal.returns-in_default-read-clause-nothing
returns-in_default-read-clause-nothing g c = λ _. c.in_default-read.ensures.stays.nothing ∙ c.in-Some.ensures.stays.nothing

pub returns-in_default-read-clause-holds : goal.returns-in_default-read-clause-holds
returns-in_default-read-clause-holds g c = λ p. c.in_default-read.ensures.stays.holds p ∙ c.in-Some.ensures.stays.holds p

-- neither is stored
pub returns-then-balance-order-clause-paid : goal.returns-then-balance-order-clause-paid
returns-then-balance-order-clause-paid g c = record {
  found = record { balance = c.in-Some.balance; read = c.read.new.thread; reads = c.in-Some.ensures.some.told; other = c.in-Some-read.other; reads_other = c.in-Some-read.ensures.some.told };
  less = search rules;
}

pub returns-then-balance-order-clause-nothing : goal.returns-then-balance-order-clause-nothing
returns-then-balance-order-clause-nothing g c = λ _. c.in-Some-read.ensures.stays.nothing ∙ c.in-Some.ensures.stays.nothing

pub returns-then-balance-order-clause-holds : goal.returns-then-balance-order-clause-holds
returns-then-balance-order-clause-holds g c = λ p. c.in-Some-read.ensures.stays.holds p ∙ c.in-Some.ensures.stays.holds p

pub returns-in_default-checked_add-clause-paid : goal.returns-in_default-checked_add-clause-paid
returns-in_default-checked_add-clause-paid g c = record {
  found = record { balance = c.in-Some.balance; read = c.read.new.thread; reads = c.in-Some.ensures.some.told; other = c.in-Some-read.other; reads_other = c.in-Some-read.ensures.some.told };
  more = elim (cases_lt (c.in-Some-read.other + c.args.order.amount) (2 ^ 64)) [ inl low ↦ absurd (c.in_default-checked_add.ensures low) | inr high ↦ high ];
}

pub returns-in_default-checked_add-clause-nothing : goal.returns-in_default-checked_add-clause-nothing
returns-in_default-checked_add-clause-nothing g c = λ _. c.in-Some-read.ensures.stays.nothing ∙ c.in-Some.ensures.stays.nothing

pub returns-in_default-checked_add-clause-holds : goal.returns-in_default-checked_add-clause-holds
returns-in_default-checked_add-clause-holds g c = λ p. c.in-Some-read.ensures.stays.holds p ∙ c.in-Some.ensures.stays.holds p

-- both are
pub put-requires-clause-field : goal.put-requires-clause-field
put-requires-clause-field g c = c.in-Some.ensures.some.field

pub put-requires-clause-guard : goal.put-requires-clause-guard
put-requires-clause-guard g c = (c.in-Some.ensures.some.guard.0, c.in-Some-read.ensures.stays.holds _ ∙ c.in-Some.ensures.some.guard.1)

pub put-requires-clause-room : goal.put-requires-clause-room
put-requires-clause-room g c = (let room = c.requires.room in let a = c.in-Some.ensures.stays.needs in let b = c.in-Some-read.ensures.stays.needs in omega arith)

pub put-requires-2-clause-field : goal.put-requires-2-clause-field
put-requires-2-clause-field g c = c.in-Some-read.ensures.some.field

pub put-requires-2-clause-guard : goal.put-requires-2-clause-guard
put-requires-2-clause-guard g c = (c.in-Some-read.ensures.some.guard.0, c.put.ensures.holds _ ∙ c.in-Some-read.ensures.some.guard.1)

pub put-requires-2-clause-room : goal.put-requires-2-clause-room
put-requires-2-clause-room g c = (let room = c.requires.room in let a = c.in-Some.ensures.stays.needs in let b = c.in-Some-read.ensures.stays.needs in let d = c.put.ensures.needs in omega arith)

pub returns-clause-paid : goal.returns-clause-paid
returns-clause-paid g c = record {
  seen = c.read-2.new.thread;
  found = record { balance = c.in-Some.balance; read = c.read.new.thread; reads = c.in-Some.ensures.some.told; other = c.in-Some-read.other; reads_other = c.in-Some-read.ensures.some.told };
  enough = search rules;
  fits = c.in-Some-checked_add.ensures.0;
  stored = c.put.new.thread;
  takes = c.put.ensures.told;
  gives = subst (λ (value : ℕ). StoresAs g.J.Joint.home c.put.new.thread c.put-2.new.thread (balance_of c.args.order.to) value (Ok tt)) c.in-Some-checked_add.ensures.1 c.put-2.ensures.told;
}

pub returns-clause-nothing : goal.returns-clause-nothing
returns-clause-nothing g c = λ other. absurd (other refl)

pub returns-clause-holds : goal.returns-clause-holds
returns-clause-holds g c = λ p. c.put-2.ensures.holds p ∙ c.put.ensures.holds p ∙ c.in-Some-read.ensures.stays.holds p ∙ c.in-Some.ensures.stays.holds p
