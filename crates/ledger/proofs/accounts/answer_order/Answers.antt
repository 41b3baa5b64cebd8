use Rattle.std.proofs.Common.{inl, inr, refl, sym, ap, ◌∙◌, subst, Ok, Err, arith}
use Rattle.std.proofs.lemmas.Bool.{cases_lt}
use Rattle.session.specs.Logs.{held_count}
use Rattle.session.specs.Sessions.{view_of}
use Rattle.session.specs.declared.error.SessionError.{SessionError}
use Rattle.ledger.specs.Answers.{IsAnswer}
use Rattle.ledger.specs.Transfers.{HasMade}
use Rattle.ledger.specs.declared.answer.Answer.{Answer}
use Rattle.ledger.specs.declared.moving.Made.{Made}
use Rattle.ledger.proofs.accounts.answer_order.Goals as goal

pub returns-then-order-eq0 : goal.returns-then-order-eq0
returns-then-order-eq0 g c = record { idle = elim c.then-order-eq0.either [ inl e ↦ inl e | inr e ↦ inr e.1 ]; same = refl }

pub returns-then-holds-ne0 : goal.returns-then-holds-ne0
returns-then-holds-ne0 g c = record {
  reason = inl (elim (cases_lt 0 (held_count (view_of c.args.thread.now))) [ inl some ↦ some | inr none ↦ absurd (c.if-holds-ne0.true (let is = c.holds.ensures in omega arith)) ]);
  nothing = refl;
}

pub transfer-requires-clause-apart : goal.transfer-requires-clause-apart
transfer-requires-clause-apart g c = c.if-order.false

pub transfer-requires-clause-outside : goal.transfer-requires-clause-outside
transfer-requires-clause-outside g c = sym c.holds.ensures ∙ c.if-holds-ne0.false

pub returns-in-Ok-Moved : goal.returns-in-Ok-Moved
returns-in-Ok-Moved g c =
    let h = g.J.Joint.home in
    let x = c.args.thread.now in
    let o = c.args.order in
    let y = c.durable_answer.new.thread in
    let moved : HasMade h x o c.transfer.new.thread _ = subst (λ (m : Made). HasMade h x o c.transfer.new.thread m) c.in-Ok-Moved.field-0-is c.in-Ok-Moved.ensures.made in
    elim c.durable_answer.ensures.other [
      | inl is ↦ subst (λ (a : Answer). IsAnswer h x o y a) (sym is) (record { moved = c.transfer.new.thread; has_moved = moved; durable = c.durable_answer.ensures.durable is })
      | inr is ↦ subst (λ (a : Answer). IsAnswer h x o y a) (sym is) (record { moved = c.transfer.new.thread; has_moved = moved; unsettled = c.durable_answer.ensures.not_durable is })
    ]

pub returns-in-Ok-TooLittle : goal.returns-in-Ok-TooLittle
returns-in-Ok-TooLittle g c = record {
  has_found = subst (λ (m : Made). HasMade g.J.Joint.home c.args.thread.now c.args.order c.transfer.new.thread m) c.in-Ok-TooLittle.field-0-is c.in-Ok-TooLittle.ensures.made;
  nothing = c.in-Ok-TooLittle.ensures.nothing (λ is. absurd (let e = c.in-Ok-TooLittle.field-0-is in cc));
}

pub returns-in-Ok-TooMuch : goal.returns-in-Ok-TooMuch
returns-in-Ok-TooMuch g c = record {
  has_found = subst (λ (m : Made). HasMade g.J.Joint.home c.args.thread.now c.args.order c.transfer.new.thread m) c.in-Ok-TooMuch.field-0-is c.in-Ok-TooMuch.ensures.made;
  nothing = c.in-Ok-TooMuch.ensures.nothing (λ is. absurd (let e = c.in-Ok-TooMuch.field-0-is in cc));
}

pub returns-in-Err : goal.returns-in-Err
returns-in-Err g c = record { reason = inr (c.in-Err.field-0, c.in-Err.ensures.refused); nothing = c.in-Err.ensures.nothing (λ is. absurd cc) }

pub returns-in-Ok-NoAccount : goal.returns-in-Ok-NoAccount
returns-in-Ok-NoAccount g c = record {
  lacks = c.in-Ok-NoAccount.ensures.missing (inl (ap (λ (m : Made). Ok m) c.in-Ok-NoAccount.field-0-is));
  nothing = c.in-Ok-NoAccount.ensures.nothing (λ is. absurd (let e = c.in-Ok-NoAccount.field-0-is in cc));
}

pub returns-in-Err-UnknownObject : goal.returns-in-Err-UnknownObject
returns-in-Err-UnknownObject g c = record {
  lacks = c.in-Err-UnknownObject.ensures.missing (inr (ap (λ (e : SessionError). Err e) c.in-Err-UnknownObject.field-0-is));
  nothing = c.in-Err-UnknownObject.ensures.nothing (λ is. absurd cc);
}
