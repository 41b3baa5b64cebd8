use Rattle.std.proofs.Common.{ℕ, ◌≡◌, ◌<◌, List, Some, slice_get}
use Rattle.guards.specs.Schema.{names_of}
use Rattle.pool.specs.Names.{IsCellName}
use Rattle.pool.proofs.names.names_a_cell.Given as goal

-- none of the names so far is the pool's
abbrev pub invariant-loop-number : goal.invariant-loop-number
invariant-loop-number l = (k : ℕ) (text : List ℕ) → k < l.number → slice_get (names_of l.builder.fields) k ≡ Some text → IsCellName l.name l.slots text → ⊥
