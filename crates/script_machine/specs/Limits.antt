-- The limits of an image's lanes and capacity (docs/FORMAT.md).
use Rattle.std.specs.Prelude.{ℕ, ◌≤◌}

-- 1 to 32 lanes, with room for 2,000 to 1,048,576 records in each
abbrev pub IsFormattable : (lanes capacity : ℕ) → Type 0
IsFormattable lanes capacity = (1 ≤ lanes) × (lanes ≤ 32) × (2000 ≤ capacity) × (capacity ≤ 1048576)
