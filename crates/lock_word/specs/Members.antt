-- The lanes of a wait set, one by one.
use Rattle.std.specs.Prelude.{ℕ, zero, suc, if◌then◌else◌, List, [], ◌∷◌}
use Rattle.std.specs.FinSet as set
use Rattle.std.specs.Ordering.{nat_cmp}
use Rattle.heap_model.specs.declared.ids.Lane.{Lane}

-- the lanes below `count` that are in the set, the highest first
abbrev pub members_below : set.FinSet nat_cmp → (count : ℕ) → List Lane
members_below lanes zero = []
members_below lanes (suc lane) = if set.contains lanes lane then record { 0 = lane } ∷ members_below lanes lane else members_below lanes lane

-- the lanes in the set, the highest first
unfoldable pub members : set.FinSet nat_cmp → List Lane
members lanes = members_below lanes 32
