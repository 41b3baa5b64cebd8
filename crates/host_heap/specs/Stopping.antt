-- The word by which the sessions of a heap learn that it has stopped since a sync of its host failed (this project's own).
use Rattle.std.specs.Prelude.{ℕ, Bool, Option}

-- the name of the word, and what one of those that share it has seen of it: nothing, or that it was written
pub record Stopping : Type 0 where
  pub word : ℕ
  pub seen : Option Bool
