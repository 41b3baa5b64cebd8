-- What a thread's own events, the newest first, say of its log: which monitors it holds, and its sections.
use Rattle.std.specs.Prelude.{ℕ, ◌≢◌, ◌↔◌, List, map, length, Contains, AllPairs, None}
use Rattle.heap_model.specs.declared.event.Event.{Event}
use Rattle.heap_model.specs.Setting.{Setting}
use Rattle.heap_model.specs.Own.{Own, own_log}
use Rattle.heap_model.specs.Sections.{Action, action, holding, ended, open_section}

-- what the records of its log do
abbrev pub own_actions : Setting → List Event → List Action
own_actions g events = map action (own_log g events)

-- the objects whose monitors it holds, the one that it took last first
abbrev pub held_objects : Setting → List Event → List ℕ
held_objects g events = holding (own_actions g events)

-- how many monitors it holds
abbrev pub held_in : Setting → List Event → ℕ
held_in g events = length (held_objects g events)

-- how many of its sections have ended
abbrev pub sections_in : Setting → List Event → ℕ
sections_in g events = ended (own_actions g events)

-- how many records the section has that it is in, 0 where it holds nothing
abbrev pub open_records : Setting → List Event → ℕ
open_records g events = length (open_section (own_actions g events))

-- the objects are those that the thread holds by its own view, each once
pub record AreHeld (view : Own) (objects : List ℕ) : Type 0 where
  pub each : (o : ℕ) → Contains objects o ↔ (view.hold o ≢ None)
  pub once : AllPairs (λ o p. o ≢ p) objects
