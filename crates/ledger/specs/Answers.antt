-- Which answer a request gets.
use Rattle.std.specs.Prelude.{ℕ, ◌≡◌, ◌<◌, ◌⊎◌, List, [], codes}
use Rattle.thread_work.specs.Threads.{IsDurable, IsUnsettled}
use Rattle.http.specs.Request.{head_of}
use Rattle.http.specs.declared.request.Request.{Request}
use Rattle.http_server.specs.declared.response.Response.{Response}
use Rattle.http_server.specs.Response.{IsResponse}
use Rattle.http_uri.specs.Uri.{uri_path}
use Rattle.monitor.specs.Seats.{Home}
use Rattle.session.specs.Logs.{held_count}
use Rattle.session.specs.Sessions.{view_of}
use Rattle.session.specs.declared.error.SessionError.{SessionError}
use Rattle.session.specs.declared.session.Session.{Session}
use Rattle.ledger.specs.Orders.{IsInRange, spelled}
use Rattle.ledger.specs.Transfers.{HasMade, HasStoredNothing, IsRefusedAMonitor, LacksAccount, monitors_of}
use Rattle.ledger.specs.declared.answer.Answer.{Answer}
use Rattle.ledger.specs.declared.answer.Answer.TheVariants.{Durable, NotDurable, NoTransfer, NoAccount, TooLittle, TooMuch, Stopped}
use Rattle.ledger.specs.declared.moving.Made.{Made}
use Rattle.ledger.specs.declared.moving.Made.TheVariants as made
use Rattle.ledger.specs.declared.order.Order.{Order}

-- the status of an answer (RFC 9110, section 15), and its text
abbrev pub status_of : Answer → ℕ
status_of Durable = 200
status_of NotDurable = 503
status_of NoTransfer = 400
status_of NoAccount = 404
status_of TooLittle = 409
status_of TooMuch = 409
status_of Stopped = 503

abbrev pub text_of : Answer → List ℕ
text_of Durable = codes "made"
text_of NotDurable = codes "made"
text_of NoTransfer = codes "not made"
text_of NoAccount = codes "not made"
text_of TooLittle = codes "not made"
text_of TooMuch = codes "not made"
text_of Stopped = codes "not made"

-- The request asks for this order.
pub record AsksFor (request : Request (List ℕ)) (o : Order) : Type 0 where
  pub method : (head_of request).method ≡ codes "POST"
  pub path : uri_path (head_of request).uri ≡ spelled o

-- The request asks for no order.
abbrev pub AsksForNone : (request : Request (List ℕ)) → Type 0
AsksForNone request = (o : Order) → IsInRange o → AsksFor request o → ⊥

-- The order was made in one section, and the thread has slept until that was durable.
pub record IsMadeDurably (h : Home) (x : Session) (o : Order) (y : Session) : Type 0 where
  pub moved : Session
  -- A request that is answered 200 has moved its amount in one section.
  pub has_moved : HasMade h x o moved made.Moved
  -- A request is answered 200 only once the helper has published its section, which then no crash takes back (`durable_law`).
  pub durable : IsDurable moved y

-- The order was made in one section, and the helper has stopped before that was acknowledged.
pub record IsMadeOnly (h : Home) (x : Session) (o : Order) (y : Session) : Type 0 where
  pub moved : Session
  -- A request that is answered 503 and `made` has moved its amount in one section.
  pub has_moved : HasMade h x o moved made.Moved
  -- A request is answered 503 and `made` only where some section of the thread isn't acknowledged.
  pub unsettled : IsUnsettled moved y

-- The order's accounts were read, and that was found.
pub record IsFound (h : Home) (x : Session) (o : Order) (y : Session) (found : Made) : Type 0 where
  -- A request is answered 409 only where the account had less than the amount, or the other one has no room for it.
  pub has_found : HasMade h x o y found
  -- A request that is answered 409 has stored nothing.
  pub nothing : HasStoredNothing x y

-- An account of the order isn't there.
pub record IsMissing (h : Home) (x : Session) (o : Order) (y : Session) : Type 0 where
  -- A request is answered 404 only where one of its two accounts isn't there.
  pub lacks : LacksAccount h o
  -- A request that is answered 404 has stored nothing.
  pub nothing : HasStoredNothing x y

-- why the thread can't go on: it holds a monitor, so that the transfer would be no section of its own, or it may not take one
abbrev pub CannotGoOn : Home → Session → Order → Type 0
CannotGoOn h x o = (0 < held_count (view_of x)) ⊎ ((e : SessionError) × IsRefusedAMonitor h (monitors_of o) x e)

-- The thread can't go on.
pub record IsStopped (h : Home) (x : Session) (o : Order) (y : Session) : Type 0 where
  -- A request is answered 503 and `not made` only where the thread holds a monitor before it, or an enter is refused.
  pub reason : CannotGoOn h x o
  -- A request that is answered 503 and `not made` has stored nothing.
  pub nothing : HasStoredNothing x y

-- The order moves nothing.
pub record IsIdle (x : Session) (o : Order) (y : Session) : Type 0 where
  -- An order is answered 400 only where it moves nothing, or from an account to itself.
  pub idle : (o.amount ≡ 0) ⊎ (o.from ≡ o.to)
  -- A request that is answered 400 has called nothing.
  pub same : y ≡ x

-- what has become of an order, by its answer
abbrev pub IsAnswer : (h : Home) (x : Session) (o : Order) (y : Session) → Answer → Type 0
IsAnswer h x o y Durable = IsMadeDurably h x o y
IsAnswer h x o y NotDurable = IsMadeOnly h x o y
IsAnswer h x o y NoTransfer = IsIdle x o y
IsAnswer h x o y NoAccount = IsMissing h x o y
IsAnswer h x o y TooLittle = IsFound h x o y made.TooLittle
IsAnswer h x o y TooMuch = IsFound h x o y made.TooMuch
IsAnswer h x o y Stopped = IsStopped h x o y

-- nothing was asked for
pub record IsUnasked (x y : Session) (answer : Answer) : Type 0 where
  -- A request for no order is answered 400.
  pub none : answer ≡ NoTransfer
  pub same : y ≡ x

-- a request's response
pub record Answers (h : Home) (x : Session) (request : Request (List ℕ)) (response : Response) (y : Session) : Type 0 where
  pub answer : Answer
  -- A response has the status of its answer, no header, and the text that says whether the transfer was made.
  pub sent : IsResponse (status_of answer) [] (text_of answer) response
  -- A request gets the answer of the order that it asks for. It is taken for none only where it asks for none.
  pub asked : ((o : Order) × AsksFor request o × IsAnswer h x o y answer) ⊎ (AsksForNone request × IsUnasked x y answer)
