-- Who waits, and on which object (JLS 17.2).
use Rattle.std.specs.Prelude.{ℕ, ◌+◌, ◌==◌, ◌<◌, Bool, false, Option, Some, None, List, [], ◌∷◌, map}
use Rattle.std.specs.List.{filter, range_with_len}
use Rattle.heap_model.specs.declared.ids.Lane.{Lane}
use Rattle.heap_model.specs.State.{State, Waiting}
use Rattle.heap_model.specs.State as state
use Rattle.script_monitors.specs.declared.pause.Pause.{Pause}
use Rattle.script_monitors.specs.declared.pause.Pause.TheVariants.{Awake, InSet, Woken}

-- what the thread waits for
abbrev pub waiting_in : Pause → Waiting
waiting_in Awake = state.Awake
waiting_in (InSet object again) = state.InSet object.0 (again + 1)
waiting_in (Woken object again) = state.Woken object.0 (again + 1)

-- the object that it waits for is one of so many
abbrev pub IsPauseOf : (objects : ℕ) → Pause → Type 0
IsPauseOf objects Awake = Unit {0}
IsPauseOf objects (InSet object again) = object.0 < objects
IsPauseOf objects (Woken object again) = object.0 < objects

-- whether a thread that waits so is in the object's wait set
abbrev pub is_in_set : ℕ → Waiting → Bool
is_in_set o state.Awake = false
is_in_set o (state.InSet p count) = p == o
is_in_set o (state.Woken p count) = false

-- the first lanes, so many, in order
abbrev pub first_lanes : ℕ → List Lane
first_lanes n = map (λ l. record { 0 = l }) (range_with_len 0 n)

-- the lanes, of so many, whose threads are in the object's wait set, in order
abbrev pub wait_set : (lanes : ℕ) → State → (object : ℕ) → List Lane
wait_set lanes s o = filter (λ l. is_in_set o (s.waiting l.0)) (first_lanes lanes)

-- the first of them, if there is one
abbrev pub least_of : List Lane → Option Lane
least_of [] = None
least_of (l ∷ ls) = Some l
