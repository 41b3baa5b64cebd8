-- The moments of a run, in two parts: those up to one that it came by, and those since (this project's own).
use Rattle.std.specs.Prelude.{ℕ, ◌≤◌, ◌⊎◌, List, [], ◌∷◌, length}
use Rattle.block_disk.specs.Device.{Device, Moment, Image}

-- an image of one of these moments whose number is t or more, and u or less; a moment's number is how many were before it
abbrev pub LeftBetween : (t u : ℕ) → List Moment → List ℕ → Type 0
LeftBetween t u [] image = ⊥
LeftBetween t u (m ∷ before) image = ((t ≤ length before) × (length before ≤ u) × Image m image) ⊎ LeftBetween t u before image

-- an image that a crash of the last device might have left at some moment since it was the first one, and up to when it was the one between
abbrev pub LeftUpTo : (first between last : Device) → List ℕ → Type 0
LeftUpTo first between last image = LeftBetween (length first.past) (length between.past) (last.now ∷ last.past) image
