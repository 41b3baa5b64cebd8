-- What a thread holds over the calls of a transfer, and which calls can't be refused.
use Rattle.std.specs.Prelude.{ℕ, ◌≡◌, ◌≢◌, ◌+◌, ◌<◌, ◌≤◌, Ok}
use Rattle.heap_model.specs.declared.ids.ObjectId.{ObjectId}
use Rattle.heap_model.specs.Own.{Hold}
use Rattle.monitor.specs.Seats.{Home}
use Rattle.thread_steps.specs.Views.{hold, plan}
use Rattle.session.specs.Calls.{HoldsGuard, Loads, Owns}
use Rattle.session.specs.Logs.{held_count, section_records}
use Rattle.session.specs.Sessions.{view_of}
use Rattle.session.specs.declared.error.SessionError.{SessionError}
use Rattle.session.specs.declared.error.SessionError.TheVariants.{UnknownObject}
use Rattle.session.specs.declared.session.Session.{Session}
use Rattle.ledger.specs.Transfers.{HasStoredNothing, balance_of}

-- the thread has the monitor, by one lock at least
abbrev pub IsTaken : Home → Session → ObjectId → Type 0
IsTaken h x o = (o.0 < (plan h).objects) × (k : Hold) × Owns x o k × (0 < k.count)

abbrev pub HasBoth : Home → Session → ObjectId × ObjectId → Type 0
HasBoth h x m = IsTaken h x m.0 × IsTaken h x m.1

-- the records of the section that is open, and the releases that it needs
abbrev pub needs : Session → ℕ
needs x = section_records (view_of x) + held_count (view_of x)

-- what the thread has, it still has; each monitor, or each but one
abbrev pub SameHolds : (x y : Session) → Type 0
SameHolds x y = (p : ℕ) → hold (view_of y) p ≡ hold (view_of x) p

abbrev pub KeepsTaken : Home → (x y : Session) → Type 0
KeepsTaken h x y = (p : ObjectId) → IsTaken h x p → IsTaken h y p

abbrev pub KeepsOthers : Home → (x y : Session) → ObjectId → Type 0
KeepsOthers h x y o = (p : ObjectId) → o.0 ≢ p.0 → IsTaken h x p → IsTaken h y p

-- nothing was stored, and nothing was taken or given back
pub record Stays (x y : Session) : Type 0 where
  pub nothing : HasStoredNothing x y
  pub holds : SameHolds x y
  pub needs : needs y ≡ needs x

-- the monitor was taken
pub record Took (h : Home) (x y : Session) (o : ObjectId) : Type 0 where
  pub taken : IsTaken h y o
  pub keeps : KeepsTaken h x y
  pub nothing : HasStoredNothing x y
  -- a record, and a release
  pub needs : needs y ≤ needs x + 2

-- the monitor wasn't taken
pub record Misses (h : Home) (x y : Session) (o : ObjectId) (e : SessionError) : Type 0 where
  pub keeps : KeepsTaken h x y
  pub nothing : HasStoredNothing x y
  pub unknown : e ≡ UnknownObject → (plan h).objects ≤ o.0

-- the balance was read, under the guard
pub record HasRead (h : Home) (x y : Session) (account balance : ℕ) : Type 0 where
  pub told : Loads h x y (balance_of account) (Ok balance)
  pub field : account < (plan h).fields
  pub guard : HoldsGuard h y (balance_of account)
