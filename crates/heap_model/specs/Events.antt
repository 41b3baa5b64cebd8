-- What a thread's event does, and when it is allowed (JLS 17.1, 17.2).
use Rattle.std.specs.Prelude.{ℕ, ◌≡◌, ◌+◌, ◌-◌, ◌<◌, Option, Some, None, Contains, ◌↔◌}
use Rattle.heap_model.specs.declared.ids.Lane.{Lane}
use Rattle.heap_model.specs.declared.event.Sight.{Sight}
use Rattle.heap_model.specs.declared.event.Sight.TheVariants.{Found, StillInSet}
use Rattle.heap_model.specs.declared.event.Event.{Event}
use Rattle.heap_model.specs.declared.event.Event.TheVariants.{Enter, NestedEnter, NestedExit, Exit, Load, Store, Wait, Resume, Notify, NotifyAll, Look}
use Rattle.heap_model.specs.Setting.{Setting}
use Rattle.heap_model.specs.State.{State, Awake, InSet, with_at, IsInSet, IsWoken, kept_count, woken_from, notified, freed, taken}

-- the state after the thread's event
abbrev pub after_event : State → (thread : ℕ) → Event → State
after_event s t (Enter o n) = taken s t o.0 1
after_event s t (NestedEnter o) = record s { count = with_at s.count o.0 (s.count o.0 + 1) }
after_event s t (NestedExit o) = record s { count = with_at s.count o.0 (s.count o.0 - 1) }
after_event s t (Exit o n) = freed s o.0 n
after_event s t (Load f v) = s
after_event s t (Store f before after) = record s { value = with_at s.value f.0 after }
after_event s t (Wait o n) = record (freed s o.0 n) { waiting = with_at s.waiting t (InSet o.0 (s.count o.0)) }
after_event s t (Resume o n) = record (taken s t o.0 (kept_count (s.waiting t))) { waiting = with_at s.waiting t Awake }
after_event s t (Notify o woken) = notified s woken
after_event s t (NotifyAll o woken) = record s { waiting = λ u. woken_from o.0 (s.waiting u) }
after_event s t (Look o sight) = s

-- one member leaves the wait set, whichever it is; none only where the set is empty (JLS 17.2.2)
abbrev pub MayNotify : State → (object : ℕ) → Option Lane → Type 0
MayNotify s o None = (t : ℕ) → ¬ IsInSet o (s.waiting t)
MayNotify s o (Some l) = IsInSet o (s.waiting l.0)

-- the number of the lane, if there is one
abbrev pub lane_number : Option Lane → Option ℕ
lane_number None = None
lane_number (Some l) = Some l.0

-- what a look may tell: the monitor as it is, or that the thread is still in the wait set (this project's own)
abbrev pub MaySee : State → (thread object : ℕ) → Sight → Type 0
MaySee s t o (Found owner count number) = (s.owner o ≡ lane_number owner) × (s.count o ≡ count) × (s.number o ≡ number)
MaySee s t o StillInSet = IsInSet o (s.waiting t)

-- the thread's event is allowed in this state. A thread that waits may only resume, once it was removed from the wait set, and look
abbrev pub MayDo : Setting → State → (thread : ℕ) → Event → Type 0
MayDo g s t (Enter o n) = (s.waiting t ≡ Awake) × (s.owner o.0 ≡ None) × (s.number o.0 ≡ n) × (n < g.last)
MayDo g s t (NestedEnter o) = (s.waiting t ≡ Awake) × (s.owner o.0 ≡ Some t)
MayDo g s t (NestedExit o) = (s.waiting t ≡ Awake) × (s.owner o.0 ≡ Some t) × (1 < s.count o.0)
MayDo g s t (Exit o n) = (s.waiting t ≡ Awake) × (s.owner o.0 ≡ Some t) × (s.count o.0 ≡ 1) × (s.number o.0 ≡ n)
MayDo g s t (Load f v) = (s.waiting t ≡ Awake) × (s.owner (g.guard f.0) ≡ Some t) × (s.value f.0 ≡ v)
MayDo g s t (Store f before after) = (s.waiting t ≡ Awake) × (s.owner (g.guard f.0) ≡ Some t) × (s.value f.0 ≡ before)
MayDo g s t (Wait o n) = (s.waiting t ≡ Awake) × (s.owner o.0 ≡ Some t) × (s.number o.0 ≡ n)
MayDo g s t (Resume o n) = IsWoken o.0 (s.waiting t) × (s.owner o.0 ≡ None) × (s.number o.0 ≡ n) × (n < g.last)
MayDo g s t (Notify o woken) = (s.waiting t ≡ Awake) × (s.owner o.0 ≡ Some t) × MayNotify s o.0 woken
MayDo g s t (NotifyAll o woken) = (s.waiting t ≡ Awake) × (s.owner o.0 ≡ Some t) × ((u : Lane) → Contains woken u ↔ IsInSet o.0 (s.waiting u.0))
MayDo g s t (Look o sight) = MaySee s t o.0 sight

-- the event's object or field is one of the setting's
abbrev pub IsEventOf : Setting → Event → Type 0
IsEventOf g (Enter o n) = o.0 < g.objects
IsEventOf g (NestedEnter o) = o.0 < g.objects
IsEventOf g (NestedExit o) = o.0 < g.objects
IsEventOf g (Exit o n) = o.0 < g.objects
IsEventOf g (Load f v) = f.0 < g.fields
IsEventOf g (Store f before after) = f.0 < g.fields
IsEventOf g (Wait o n) = o.0 < g.objects
IsEventOf g (Resume o n) = o.0 < g.objects
IsEventOf g (Notify o woken) = o.0 < g.objects
IsEventOf g (NotifyAll o woken) = o.0 < g.objects
IsEventOf g (Look o sight) = o.0 < g.objects
