-- How an action counts in its lane.
use Rattle.std.specs.Prelude.{ℕ, ◌+◌, ◌-◌, ◌<◌, ◌==◌, if◌then◌else◌}
use Rattle.heap_model.specs.Sections.{Action, Takes, Frees, Stores}

-- how many objects the lane holds after the action
abbrev pub held_after : Action → (held : ℕ) → ℕ
held_after (Takes o n) held = held + 1
held_after (Frees o n) held = held - 1
held_after Stores held = held

-- how many sections of the lane have ended after the action
abbrev pub ended_after : Action → (held ended : ℕ) → ℕ
ended_after (Takes o n) held ended = ended
ended_after (Frees o n) held ended = if held == 1 then ended + 1 else ended
ended_after Stores held ended = ended

-- a lane that frees holds something
abbrev pub IsHeldBy : Action → (held : ℕ) → Type 0
IsHeldBy (Takes o n) held = Unit {0}
IsHeldBy (Frees o n) held = 0 < held
IsHeldBy Stores held = Unit {0}
