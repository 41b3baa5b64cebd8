-- What a thread knows by its own events, the newest first.
use Rattle.std.specs.Prelude.{ℕ, ◌≡◌, ◌+◌, ◌-◌, ◌==◌, if◌then◌else◌, List, [], ◌∷◌, Option, Some, None, option_map, reverse}
use Rattle.heap_model.specs.declared.record.Record.{Record}
use Rattle.heap_model.specs.declared.event.Event.{Event}
use Rattle.heap_model.specs.declared.event.Event.TheVariants.{Enter, NestedEnter, NestedExit, Exit, Load, Store, Wait, Resume, Notify, NotifyAll, Look}
use Rattle.heap_model.specs.Setting.{Setting}
use Rattle.heap_model.specs.State.{State, Waiting, Awake, InSet, Woken, with_at}
use Rattle.heap_model.specs.History.{logged}

-- a thread's hold on a monitor: the count of its locks, and the number that it found
pub record Hold : Type 0 where
  pub count : ℕ
  pub number : ℕ

-- the wait that a thread is in: its object, and the count of the locks that it has kept aside
pub record Pause : Type 0 where
  pub object : ℕ
  pub count : ℕ

-- a thread's own view: its hold on each object, if any, and the wait that it is in, if any
pub record Own : Type 0 where
  pub hold : ℕ → Option Hold
  pub pause : Option Pause

-- the count of a hold, 0 for none
abbrev pub hold_count : Option Hold → ℕ
hold_count None = 0
hold_count (Some h) = h.count

-- the count that a wait has kept aside, 0 for none
abbrev pub pause_count : Option Pause → ℕ
pause_count None = 0
pause_count (Some p) = p.count

-- the hold with one lock more
abbrev pub more : Hold → Hold
more h = record h { count = h.count + 1 }

-- the hold with one lock less
abbrev pub less : Hold → Hold
less h = record h { count = h.count - 1 }

-- the thread's own view after one more of its events
abbrev pub own_after : Own → Event → Own
own_after w (Enter o n) = record w { hold = with_at w.hold o.0 (Some (record { count = 1; number = n })) }
own_after w (NestedEnter o) = record w { hold = with_at w.hold o.0 (option_map more (w.hold o.0)) }
own_after w (NestedExit o) = record w { hold = with_at w.hold o.0 (option_map less (w.hold o.0)) }
own_after w (Exit o n) = record w { hold = with_at w.hold o.0 None }
own_after w (Load f v) = w
own_after w (Store f before after) = w
own_after w (Wait o n) = record { hold = with_at w.hold o.0 None; pause = Some (record { object = o.0; count = hold_count (w.hold o.0) }) }
own_after w (Resume o n) = record { hold = with_at w.hold o.0 (Some (record { count = pause_count w.pause; number = n })); pause = None }
own_after w (Notify o woken) = w
own_after w (NotifyAll o woken) = w
own_after w (Look o sight) = w

-- the thread's own view after all its events: at first it holds nothing and doesn't wait
abbrev pub own : List Event → Own
own [] = record { hold = λ o. None; pause = None }
own (e ∷ older) = own_after (own older) e

-- the log with the record in front, if there is one
abbrev pub with_own : Option Record → List Record → List Record
with_own None log = log
with_own (Some r) log = r ∷ log

-- the thread's log, by its own events
abbrev pub own_log : Setting → List Event → List Record
own_log g [] = []
own_log g (e ∷ older) = with_own (logged g e) (own_log g older)

-- what the thread has sent to the helper: its log, the oldest record first
abbrev pub sent_of : Setting → List Event → List Record
sent_of g events = reverse (own_log g events)

-- the thread's hold on a monitor that has this owner, count and number
abbrev pub hold_in : (owner : Option ℕ) → (count number thread : ℕ) → Option Hold
hold_in None c n t = None
hold_in (Some u) c n t = if u == t then Some (record { count = c; number = n }) else None

-- the thread's hold on the object in a state
abbrev pub hold_of : State → (thread object : ℕ) → Option Hold
hold_of s t o = hold_in (s.owner o) (s.count o) (s.number o) t

-- the wait that a thread is in, if it waits
abbrev pub pause_of : Waiting → Option Pause
pause_of Awake = None
pause_of (InSet o c) = Some (record { object = o; count = c })
pause_of (Woken o c) = Some (record { object = o; count = c })

-- in the state, the thread holds what its own view says, and waits where that says so
pub record Agrees (thread : ℕ) (w : Own) (s : State) : Type 0 where
  pub hold : (o : ℕ) → w.hold o ≡ hold_of s thread o
  pub pause : w.pause ≡ pause_of (s.waiting thread)
