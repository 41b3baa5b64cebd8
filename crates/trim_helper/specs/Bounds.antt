-- How many records a drain, a settling or a round may apply (this project's own).
use Rattle.std.specs.Prelude.{ℕ, ◌≡◌, ◌+◌, ◌*◌, ◌<◌, ◌≤◌, Option, None, Some}

-- so many are within the bound, where one was told
abbrev pub IsWithin : (most : Option ℕ) → ℕ → Type 0
IsWithin None n = Unit {0}
IsWithin (Some most) n = n ≤ most

-- so many are fewer than the bound, where one was told
abbrev pub IsBelow : (most : Option ℕ) → ℕ → Type 0
IsBelow None n = Unit {0}
IsBelow (Some most) n = n < most

-- so many reach the bound, where one was told
abbrev pub IsAt : (most : Option ℕ) → ℕ → Type 0
IsAt None n = ⊥
IsAt (Some most) n = n ≡ most

-- An equal part of what remains of a bound, where so many lanes are left: it is at least any part that all of them can have, and leaves the
-- others theirs.
pub record IsShare (remaining lanes share : ℕ) : Type 0 where
  pub within : share ≤ remaining
  pub some : 0 < remaining → 0 < share
  pub least : (part : ℕ) → part * lanes ≤ remaining → part ≤ share
  pub rest : (part others : ℕ) → lanes ≡ others + 1 → part * lanes ≤ remaining → part * others + share ≤ remaining
