-- What holds of both monitors of an order.
use Rattle.std.proofs.Common.{◌≡◌, ◌≢◌, ◌≤◌, ◌⊎◌, nat_lt, if◌then◌else◌, Bool, true, false, inl, inr, sym, arith}
use Rattle.heap_model.specs.declared.ids.ObjectId.{ObjectId}
use Rattle.monitor.specs.Seats.{Home}
use Rattle.thread_steps.specs.Views.{plan}
use Rattle.session.specs.Logs.{actions_in, held_count}
use Rattle.session.specs.Sessions.{view_of}
use Rattle.session.specs.declared.session.Session.{Session}
use Rattle.ledger.specs.Transfers.{LacksAccount, monitor_of, monitors_of}
use Rattle.ledger.specs.Holding.{HasBoth, IsTaken, SameHolds, needs}
use Rattle.ledger.specs.declared.order.Order.{Order}
use Rattle.ledger.proofs.Calling.{keeps}
use Rattle.ledger.proofs.Telling.{outside_needs}

-- both accounts' monitors, the lesser first where this says so
abbrev placed : Bool → Order → ObjectId × ObjectId
placed b o = if b then (monitor_of o.to, monitor_of o.from) else (monitor_of o.from, monitor_of o.to)

pub both_of : (h : Home) (x : Session) (o : Order) → HasBoth h x (monitors_of o) → IsTaken h x (monitor_of o.from) × IsTaken h x (monitor_of o.to)
both_of h x o both = by_order (nat_lt o.to o.from) both
  where
    by_order : (b : Bool) → HasBoth h x (placed b o) → IsTaken h x (monitor_of o.from) × IsTaken h x (monitor_of o.to)
    by_order true has = (has.1, has.0)
    by_order false has = (has.0, has.1)

pub apart_of : (o : Order) → o.from ≢ o.to → (monitors_of o).1.0 ≢ (monitors_of o).0.0
apart_of o apart = by_order (nat_lt o.to o.from)
  where
    by_order : (b : Bool) → (placed b o).1.0 ≢ (placed b o).0.0
    by_order true e = apart e
    by_order false e = apart (sym e)

-- where there is no such object
pub lacks_of : (h : Home) (o : Order) → ((plan h).objects ≤ (monitors_of o).0.0) ⊎ ((plan h).objects ≤ (monitors_of o).1.0) → LacksAccount h o
lacks_of h o high = by_order (nat_lt o.to o.from) high
  where
    by_order : (b : Bool) → ((plan h).objects ≤ (placed b o).0.0) ⊎ ((plan h).objects ≤ (placed b o).1.0) → LacksAccount h o
    by_order true (inl le) = inr (λ is. (let low = is.0 in omega arith))
    by_order true (inr le) = inl (λ is. (let low = is.0 in omega arith))
    by_order false (inl le) = inl (λ is. (let low = is.0 in omega arith))
    by_order false (inr le) = inr (λ is. (let low = is.0 in omega arith))

-- a thread that holds nothing has no section
pub no_needs : (x : Session) → held_count (view_of x) ≡ 0 → needs x ≡ 0
no_needs x none = outside_needs (actions_in (view_of x)) none

-- what is held after calls that take and give back nothing
pub held_on : (h : Home) (x y : Session) (p : ObjectId) → SameHolds x y → IsTaken h x p → IsTaken h y p
held_on h x y p same = keeps h x y p (same p.0)
