-- The earliest of a list's elements that another list doesn't have yet, lane by lane.
use Rattle.std.specs.Prelude.{ℕ, ◌≡◌, List, ◌∷◌, ◌++◌}
use Rattle.heap_model.specs.Log.{lane, IsLaneWisePrefix}

-- it is the next of its lane, and all that stands before it is done
pub record Earliest {A : Type 0} (all done : List (ℕ × A)) : Type 0 where
  pub newer : List (ℕ × A)
  pub of : ℕ
  pub next : A
  pub older : List (ℕ × A)
  pub stands : all ≡ newer ++ (of, next) ∷ older
  pub before : IsLaneWisePrefix older done
  pub own : lane of done ≡ lane of older
