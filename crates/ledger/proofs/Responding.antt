-- Which response an answer is.
use Rattle.std.proofs.Common.{ℕ, ◌≡◌, ◌≤◌, ◌++◌, List, [], length, Option, None, Some, MatchOption, Result, Ok, Err, OnOk, OnErr, inl, inr, ap, ◌∙◌, arith}
use Rattle.bytes.specs.Filled.{UsesSpare}
use Rattle.http.specs.declared.request.Request.{Request}
use Rattle.http_server.specs.declared.response.Response.{Response}
use Rattle.http_server.specs.Response.{fields_of}
use Rattle.monitor.specs.Seats.{Home}
use Rattle.session.specs.declared.session.Session.{Session}
use Rattle.ledger.specs.Answers.{Answers, AsksFor, AsksForNone, IsAnswer, IsUnasked, status_of, text_of}
use Rattle.ledger.specs.declared.answer.Answer.{Answer}
use Rattle.ledger.specs.declared.answer.Answer.TheVariants.{Durable, NotDurable, NoTransfer, NoAccount, TooLittle, TooMuch, Stopped}
use Rattle.ledger.specs.declared.order.Order.{Order}

-- the response with the status and the text of the answer that its request's order has got
pub responded : {E : Type 0} (h : Home) (x y : Session) (request : Request (List ℕ)) (response : Response) (order : Option Order) (a : Answer) (was sent : List ℕ) (r : Result (Unit {0}) E) →
    response.status ≡ status_of a → fields_of response ≡ [] → was ≡ [] → sent ≡ text_of a → OnOk r (response.body.items ≡ was ++ sent) →
    MatchOption order (AsksForNone request) (AsksFor request) → MatchOption order (IsUnasked x y a) (λ o. IsAnswer h x o y a) → OnOk r (Answers h x request response y)
responded h x y request response order a was sent (Err e) status headers blank text written found is = tt
responded h x y request response None a was sent (Ok done) status headers blank text written found is =
    record { answer = a; sent = record { status = status; headers = headers; body = written ∙ ap (λ (xs : List ℕ). xs ++ sent) blank ∙ text }; asked = inr (found, is) }
responded h x y request response (Some o) a was sent (Ok done) status headers blank text written found is =
    record { answer = a; sent = record { status = status; headers = headers; body = written ∙ ap (λ (xs : List ℕ). xs ++ sent) blank ∙ text }; asked = inl (o, found, is) }

text_fits : (a : Answer) → length (text_of a) ≤ 8
text_fits Durable = omega arith
text_fits NotDurable = omega arith
text_fits NoTransfer = omega arith
text_fits NoAccount = omega arith
text_fits TooLittle = omega arith
text_fits TooMuch = omega arith
text_fits Stopped = omega arith

-- a text for which there is room is written
pub is_written : {E : Type 0} (P : Type 0) (a : Answer) (sent : List ℕ) (old new : ℕ) (r : Result (Unit {0}) E) → sent ≡ text_of a → 8 ≤ old → UsesSpare r old new (length sent) → OnErr r P
is_written P a sent old new (Ok done) text room uses = tt
is_written P a sent old new (Err e) text room uses = absurd (let few = text_fits a in let same : length sent ≡ length (text_of a) = ap length text in let lacks = uses.0 in omega arith)
