-- How many lanes the image of a heap has for its threads (this project's own).
use Rattle.std.specs.Prelude.{ℕ, ◌≤◌, ◌+◌, ◌&&◌, if◌then◌else◌, nat_lt}
use Rattle.heap_model.specs.declared.limits.TheConstants.{LANES}

-- a lane for each of so many threads, and one for the helper where an image may have so many
abbrev pub lanes_for : (threads : ℕ) → ℕ
lanes_for threads = if nat_lt 0 threads && nat_lt threads LANES then threads + 1 else threads

-- An image of so many lanes has one for each of so many threads, of which there are some, and at most one more, which is the helper's.
pub record HasLanesFor (threads lanes : ℕ) : Type 0 where
  pub some : 1 ≤ threads
  pub within : threads ≤ lanes
  pub most : lanes ≤ threads + 1
