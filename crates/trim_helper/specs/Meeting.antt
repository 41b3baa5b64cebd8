-- Sessions that have ended, and the rings that they filled.
use Rattle.std.specs.Prelude.{ℕ, ◌≡◌, ◌+◌, ◌==◌, if◌then◌else◌, List, [], ◌∷◌, ◌++◌, map, length}
use Rattle.thread_rings.specs.Rings.{Receiving}
use Rattle.heap_model.specs.declared.event.Event.{Event}
use Rattle.heap_model.specs.Own.{own_log, sent_of}
use Rattle.heap_model.specs.Sections.{action, holding}
use Rattle.heap_model.specs.Setting.{Setting}
use Rattle.trim_helper.specs.Rings.{received_of, known_of}
use Rattle.trim_helper.specs.Limits.{KeepsLimits}
use Rattle.trim_helper.specs.Serving.{Part, Among}

-- the thread holds nothing, by its own events
abbrev pub HoldsNothing : Setting → List Event → Type 0
HoldsNothing s events = length (holding (map action (own_log s events))) ≡ 0

-- What was received of each of these lanes, and what is left, is what was sent: the log of its events. It keeps to the limits, and the lane
-- holds nothing.
pub record HaveMet (s : Setting) (rings : List Receiving) (parts : List Part) (capacity : ℕ) : Type 0 where
  pub whole : (x : Part) → Among parts x → received_of rings x.lane ++ known_of rings x.lane ≡ sent_of s x.events
  pub limits : (x : Part) → Among parts x → KeepsLimits x.place capacity (own_log s x.events)
  pub free : (x : Part) → Among parts x → HoldsNothing s x.events

-- the lane is that of one of these
abbrev pub HasPart : List Part → (lane : ℕ) → Type 0
HasPart parts l = (x : Part) × Among parts x × (x.lane ≡ l)

-- how many of them are of this lane
abbrev pub count_parts : (lane : ℕ) → List Part → ℕ
count_parts l [] = 0
count_parts l (x ∷ parts) = if x.lane == l then count_parts l parts + 1 else count_parts l parts
