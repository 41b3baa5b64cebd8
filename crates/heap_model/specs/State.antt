-- The plain state of monitors, fields and waiting threads (JLS 17.1, 17.2). Threads, objects and fields go by their numbers.
use Rattle.std.specs.Prelude.{ℕ, ◌≡◌, ◌+◌, ◌==◌, if◌then◌else◌, Option, Some, None}
use Rattle.heap_model.specs.declared.ids.Lane.{Lane}

-- whether a thread waits, and on which object: in its wait set, or removed from it and not yet back.
-- The count is that of its locks, which `wait` keeps aside (JLS 17.2.1)
pub data Waiting : Type 0 where
  Awake : Waiting
  InSet : (object count : ℕ) → Waiting
  Woken : (object count : ℕ) → Waiting

-- by object: the thread that owns its monitor, the count of its locks, and how often the monitor has become free;
-- by field: its value; by thread: whether it waits
pub record State : Type 0 where
  pub owner : ℕ → Option ℕ
  pub count : ℕ → ℕ
  pub number : ℕ → ℕ
  pub value : ℕ → ℕ
  pub waiting : ℕ → Waiting

-- all monitors are free, and nobody waits
abbrev pub initial_state : (first : ℕ → ℕ) → State
initial_state first = record { owner = λ o. None; count = λ o. 0; number = λ o. 0; value = first; waiting = λ t. Awake }

-- a function with another value at one place
abbrev pub with_at : {A : Type 0} → (ℕ → A) → ℕ → A → ℕ → A
with_at f k v i = if k == i then v else f i

-- the thread is in the object's wait set
abbrev pub IsInSet : ℕ → Waiting → Type 0
IsInSet o Awake = ⊥
IsInSet o (InSet p count) = p ≡ o
IsInSet o (Woken p count) = ⊥

-- the thread was removed from the object's wait set, and may take its monitor again
abbrev pub IsWoken : ℕ → Waiting → Type 0
IsWoken o Awake = ⊥
IsWoken o (InSet p count) = ⊥
IsWoken o (Woken p count) = p ≡ o

-- the object that a waiting thread waits on, and takes again
abbrev pub awaited_in : Waiting → Option ℕ
awaited_in Awake = None
awaited_in (InSet o count) = Some o
awaited_in (Woken o count) = Some o

-- the count that a waiting thread has kept aside
abbrev pub kept_count : Waiting → ℕ
kept_count Awake = 0
kept_count (InSet o count) = count
kept_count (Woken o count) = count

-- the thread, removed from its wait set (JLS 17.2.2)
abbrev pub woken : Waiting → Waiting
woken Awake = Awake
woken (InSet o count) = Woken o count
woken (Woken o count) = Woken o count

-- the thread, removed from the object's wait set, if it is in that one
abbrev pub woken_from : ℕ → Waiting → Waiting
woken_from o Awake = Awake
woken_from o (InSet p count) = if p == o then Woken p count else InSet p count
woken_from o (Woken p count) = Woken p count

-- the state in which the lane, if there is one, was removed from its wait set
abbrev pub notified : State → Option Lane → State
notified s None = s
notified s (Some l) = record s { waiting = with_at s.waiting l.0 (woken (s.waiting l.0)) }

-- the object is free, with the next number
abbrev pub freed : State → (object number : ℕ) → State
freed s o n = record s { owner = with_at s.owner o None; count = with_at s.count o 0; number = with_at s.number o (n + 1) }

-- the thread owns the object, by so many locks
abbrev pub taken : State → (thread object count : ℕ) → State
taken s t o c = record s { owner = with_at s.owner o (Some t); count = with_at s.count o c }
