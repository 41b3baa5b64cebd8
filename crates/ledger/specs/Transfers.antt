-- A transfer between two accounts, as the calls of one thread.
use Rattle.std.specs.Prelude.{ℕ, ◌≡◌, ◌+◌, ◌-◌, ◌^◌, ◌<◌, ◌≤◌, ◌⊎◌, if◌then◌else◌, nat_lt, List, [], ◌∷◌, Ok, Err}
use Rattle.heap_model.specs.declared.ids.FieldId.{FieldId}
use Rattle.heap_model.specs.declared.ids.ObjectId.{ObjectId}
use Rattle.heap_model.specs.declared.event.Event.{Event}
use Rattle.heap_model.specs.declared.event.Event.TheVariants.{Enter, NestedEnter, NestedExit, Exit, Load, Store, Wait, Resume, Notify, NotifyAll, Look}
use Rattle.monitor.specs.Seats.{Home}
use Rattle.thread_steps.specs.Views.{plan}
use Rattle.session.specs.Calls.{Exits, Loads, StoresAs, WaitsToEnter}
use Rattle.session.specs.Logs.{held_count}
use Rattle.session.specs.Sessions.{view_of}
use Rattle.session.specs.declared.error.SessionError.{SessionError}
use Rattle.session.specs.declared.session.Session.{Session}
use Rattle.ledger.specs.declared.order.Order.{Order}
use Rattle.ledger.specs.declared.moving.Made.{Made}
use Rattle.ledger.specs.declared.moving.Made.TheVariants.{Moved, TooLittle, TooMuch, NoAccount}

-- an account's monitor, and the field of its balance
abbrev pub monitor_of : (account : ℕ) → ObjectId
monitor_of n = record { 0 = n }

abbrev pub balance_of : (account : ℕ) → FieldId
balance_of n = record { 0 = n }

-- the monitors of both accounts, the lesser first
abbrev pub monitors_of : Order → ObjectId × ObjectId
monitors_of o = if nat_lt o.to o.from then (monitor_of o.to, monitor_of o.from) else (monitor_of o.from, monitor_of o.to)

-- there is such an account: an object, and a field of the same number under its monitor
abbrev pub IsAccount : Home → (account : ℕ) → Type 0
IsAccount h n = (n < (plan h).objects) × (n < (plan h).fields) × ((plan h).guard n ≡ n)

-- one of an order's two accounts isn't there
abbrev pub LacksAccount : Home → Order → Type 0
LacksAccount h o = (¬ IsAccount h o.from) ⊎ (¬ IsAccount h o.to)

-- the stores among a thread's events
abbrev pub stores : List Event → List Event
stores [] = []
stores (Enter o n ∷ older) = stores older
stores (NestedEnter o ∷ older) = stores older
stores (NestedExit o ∷ older) = stores older
stores (Exit o n ∷ older) = stores older
stores (Load f v ∷ older) = stores older
stores (Store f before after ∷ older) = Store f before after ∷ stores older
stores (Wait o n ∷ older) = stores older
stores (Resume o n ∷ older) = stores older
stores (Notify o woken ∷ older) = stores older
stores (NotifyAll o woken ∷ older) = stores older
stores (Look o sight ∷ older) = stores older

-- the thread was told of no store more
abbrev pub HasStoredNothing : (x y : Session) → Type 0
HasStoredNothing x y = stores (view_of y).events ≡ stores (view_of x).events

-- both monitors were taken, by a thread that held none: a section of its own has begun
pub record HasTaken (h : Home) (m : ObjectId × ObjectId) (x y : Session) : Type 0 where
  -- A transfer begins its own section.
  pub outside : held_count (view_of x) ≡ 0
  pub first : Session
  pub enters : WaitsToEnter h x first m.0 (Ok tt)
  pub enters_too : WaitsToEnter h first y m.1 (Ok tt)

-- both were given back
pub record HasLeft (h : Home) (m : ObjectId × ObjectId) (x y : Session) : Type 0 where
  pub first : Session
  pub exits : Exits h x first m.1 (Ok tt)
  pub exits_too : Exits h first y m.0 (Ok tt)

-- both balances were read
pub record HasReadBoth (h : Home) (x : Session) (o : Order) (y : Session) : Type 0 where
  pub balance : ℕ
  pub read : Session
  pub reads : Loads h x read (balance_of o.from) (Ok balance)
  pub other : ℕ
  pub reads_other : Loads h read y (balance_of o.to) (Ok other)

-- The amount was moved: both balances were read, and then both were stored.
pub record HasStored (h : Home) (x : Session) (o : Order) (y : Session) : Type 0 where
  pub seen : Session
  pub found : HasReadBoth h x o seen
  -- A transfer that is made takes no more than the account had.
  pub enough : o.amount ≤ found.balance
  -- A transfer that is made gives no more than the other account has room for.
  pub fits : found.other + o.amount < 2 ^ 64
  pub stored : Session
  pub takes : StoresAs h seen stored (balance_of o.from) (found.balance - o.amount) (Ok tt)
  pub gives : StoresAs h stored y (balance_of o.to) (found.other + o.amount) (Ok tt)

-- the balance was less than the amount
pub record HasReadLess (h : Home) (x : Session) (o : Order) (y : Session) : Type 0 where
  pub found : HasReadBoth h x o y
  -- A transfer is refused for its amount only where the account had less, or the other one has no room for it.
  pub less : found.balance < o.amount

-- the other balance has no room for the amount
pub record HasReadMore (h : Home) (x : Session) (o : Order) (y : Session) : Type 0 where
  pub found : HasReadBoth h x o y
  pub more : 2 ^ 64 ≤ found.other + o.amount

-- what was done under both monitors
abbrev pub HasPaid : (h : Home) (x : Session) (o : Order) (y : Session) → Made → Type 0
HasPaid h x o y Moved = HasStored h x o y
HasPaid h x o y TooLittle = HasReadLess h x o y
HasPaid h x o y TooMuch = HasReadMore h x o y
HasPaid h x o y NoAccount = LacksAccount h o

-- What has become of an order, in one section: both monitors were taken, then this was done, and then both were given back.
pub record HasMadeUnder (h : Home) (m : ObjectId × ObjectId) (x : Session) (o : Order) (y : Session) (made : Made) : Type 0 where
  pub taken : Session
  pub has_taken : HasTaken h m x taken
  pub done : Session
  pub has_paid : HasPaid h taken o done made
  pub has_left : HasLeft h m done y

abbrev pub HasMade : (h : Home) (x : Session) (o : Order) (y : Session) → Made → Type 0
HasMade h x o y made = HasMadeUnder h (monitors_of o) x o y made

-- the enter of one of the two monitors was refused
pub data IsRefusedAMonitor (h : Home) (m : ObjectId × ObjectId) (x : Session) (e : SessionError) : Type 0 where
  First : (y : Session) → WaitsToEnter h x y m.0 (Err e) → IsRefusedAMonitor h m x e
  Second : (first y : Session) → WaitsToEnter h x first m.0 (Ok tt) → WaitsToEnter h first y m.1 (Err e) → IsRefusedAMonitor h m x e
