-- What a test knows of the records that it told a graph (this project's own).
use Rattle.std.specs.Prelude.{ℕ, ◌≡◌, ◌+◌, ◌<◌, ◌≤◌, List, ◌∷◌, length, slice_index, Contains}
use Rattle.heap_model.specs.Log.{lane}
use Rattle.heap_model.specs.Sections.{Action, holding, ended}
use Rattle.dependence.specs.Next.{IsBelow, IsNext}

-- each of 16 objects was taken and freed below its numbers, and who is told to hold an object does
pub record IsOf (log : List (ℕ × Action)) (taken freed holders : List ℕ) : Type 0 where
  pub sized : (length taken ≡ 16) × (length freed ≡ 16) × (length holders ≡ 16)
  pub below : (o : ℕ) → o < 16 → IsBelow o (slice_index taken o) (slice_index freed o) log
  pub held : (o l : ℕ) → slice_index holders o ≡ l + 1 → Contains (holding (lane l log)) o

-- and each lane has so many sections at most, what was forgotten included
pub record IsKnown (base : ℕ → ℕ) (log : List (ℕ × Action)) (taken freed holders : List ℕ) (sections : ℕ) : Type 0 where
  pub of : IsOf log taken freed holders
  pub fits : (l : ℕ) → base l + ended (lane l log) ≤ sections

-- the lane may do this next, and then the other numbers are known
pub record Follows (taken freed holders : List ℕ) (l : ℕ) (a : Action) (taken' freed' holders' : List ℕ) : Type 0 where
  pub next : (log : List (ℕ × Action)) → IsOf log taken freed holders → IsNext log l a
  pub then : (log : List (ℕ × Action)) → IsOf log taken freed holders → IsOf ((l, a) ∷ log) taken' freed' holders'
