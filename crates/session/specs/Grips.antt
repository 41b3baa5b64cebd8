-- The grips of a thread as a list, the newest first.
use Rattle.std.specs.Prelude.{ℕ, suc, ◌==◌, if◌then◌else◌, Bool, true, false, List, [], ◌∷◌, Option, Some, None}
use Rattle.thread_steps.specs.declared.grip.Grip.{Grip}

-- the grip on the object
abbrev pub grip_in : (object : ℕ) → List Grip → Option Grip
grip_in o [] = None
grip_in o (g ∷ gs) = if g.object.0 == o then Some g else grip_in o gs

-- the first grip on the object, or past the end
abbrev pub place_in : (object : ℕ) → List Grip → ℕ
place_in o [] = 0
place_in o (g ∷ gs) = if g.object.0 == o then 0 else suc (place_in o gs)

-- the grip on its object, in place of the one before
abbrev pub with_grip : Grip → List Grip → List Grip
with_grip n [] = []
with_grip n (g ∷ gs) = if g.object.0 == n.object.0 then n ∷ gs else g ∷ with_grip n gs

-- without the grip on the object
abbrev pub without_grip : (object : ℕ) → List Grip → List Grip
without_grip o [] = []
without_grip o (g ∷ gs) = if g.object.0 == o then gs else g ∷ without_grip o gs

-- their objects
abbrev pub objects_of : List Grip → List ℕ
objects_of [] = []
objects_of (g ∷ gs) = g.object.0 ∷ objects_of gs

-- the object isn't one of these
abbrev pub is_absent : ℕ → List ℕ → Bool
is_absent o [] = true
is_absent o (p ∷ ps) = if p == o then false else is_absent o ps

-- no two are the same
abbrev pub are_apart : List ℕ → Bool
are_apart [] = true
are_apart (o ∷ os) = if is_absent o os then are_apart os else false
