-- The laws of what a thread knows by its own events.
use Rattle.std.specs.Prelude.{ℕ, ◌≡◌, ◌≢◌, ◌≤◌, List, Some, None}
use Rattle.heap_model.specs.declared.event.Event.{Event}
use Rattle.heap_model.specs.Setting.{Setting}
use Rattle.heap_model.specs.State.{State, Awake}
use Rattle.heap_model.specs.Events.{after_event, MayDo}
use Rattle.heap_model.specs.History.{state_after, IsLegalHistory, log_of}
use Rattle.heap_model.specs.Log.{lane, IsOfLanes}
use Rattle.heap_model.specs.Own.{Hold, own}
use Rattle.heap_model.specs.Others.{Keeps}
use Rattle.heap_model.specs.Sections.{actions}
use Rattle.heap_model.specs.OwnSections.{own_actions, held_objects, AreHeld}
use Rattle.heap_model.specs.Known.{known_value}

-- A value that a thread knows is the field's, in the state after every legal history that has its events, and the thread
-- owns the field's guard.
abbrev pub KnownLaw : Type 0
KnownLaw = (g : Setting) (history : List (ℕ × Event)) (t f v : ℕ) → IsLegalHistory g history → known_value g (lane t history) f ≡ Some v →
    ((state_after g history).owner (g.guard f) ≡ Some t) × ((state_after g history).value f ≡ v)

-- The objects that a thread's log holds are those that the thread holds by its own events, each once.
abbrev pub HoldingLaw : Type 0
HoldingLaw = (g : Setting) (history : List (ℕ × Event)) (t : ℕ) → IsLegalHistory g history → AreHeld (own (lane t history)) (held_objects g (lane t history))

-- A thread's lane of the log does what the records of its own events do: they tell its sections, and what it holds.
abbrev pub OwnSectionsLaw : Type 0
OwnSectionsLaw = (g : Setting) (history : List (ℕ × Event)) (t : ℕ) → lane t (actions (log_of g history)) ≡ own_actions g (lane t history)

-- A hold by a thread's own events is one in the state: the thread owns the monitor, by this count and at this number.
abbrev pub HeldByViewLaw : Type 0
HeldByViewLaw = (g : Setting) (history : List (ℕ × Event)) (t o : ℕ) (hold : Hold) → IsLegalHistory g history → (own (lane t history)).hold o ≡ Some hold →
    ((state_after g history).owner o ≡ Some t) × ((state_after g history).count o ≡ hold.count) × ((state_after g history).number o ≡ hold.number)

-- A thread that is in no wait by its own events is awake.
abbrev pub AwakeByViewLaw : Type 0
AwakeByViewLaw = (g : Setting) (history : List (ℕ × Event)) (t : ℕ) → IsLegalHistory g history → (own (lane t history)).pause ≡ None → (state_after g history).waiting t ≡ Awake

-- Another's event takes nothing from a thread.
abbrev pub OthersKeepLaw : Type 0
OthersKeepLaw = (g : Setting) (s : State) (t u : ℕ) (e : Event) → MayDo g s u e → u ≢ t → Keeps g t s (after_event s u e)

-- In a history of so many lanes no other thread owns anything or waits, and its log is of these lanes.
abbrev pub OfLanesLaw : Type 0
OfLanesLaw = (g : Setting) (lanes : ℕ) (history : List (ℕ × Event)) → IsLegalHistory g history → IsOfLanes lanes history →
    IsOfLanes lanes (log_of g history) × ((t : ℕ) → lanes ≤ t → ((state_after g history).waiting t ≡ Awake) × ((o : ℕ) → (state_after g history).owner o ≢ Some t))
