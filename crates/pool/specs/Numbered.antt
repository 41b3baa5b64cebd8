-- A pool as a host declares it, whose objects and fields have numbers alone (this project's own).
use Rattle.std.specs.Prelude.{ℕ, zero, suc, ◌≡◌, ◌+◌, ◌<◌, ◌≤◌, Option, Some, MatchOption}
use Rattle.std.specs.List.{range_with_len}
use Rattle.heap_model.specs.declared.limits.TheConstants.{MOST_FIELDS}
use Rattle.pool.specs.Knowledge.{Values}
use Rattle.pool.specs.FreeList.{Place, IsFreeList}
use Rattle.pool.specs.LaidOut.{first_link}

-- a heap may have the fields of a pool with its head there: the head's, and after it those of so many slots
abbrev pub FitsHeap : (head slots : ℕ) → Type 0
FitsHeap head n = head + n < MOST_FIELDS

-- the pool whose head is there, or none where a heap may not have its fields
abbrev pub IsPoolAt : (head slots : ℕ) → Option Place → Type 0
IsPoolAt head n r = MatchOption r (¬ FitsHeap head n) (λ pool. FitsHeap head n × (pool ≡ record { head = head; slots = n }))

-- the value with which a pool's field begins: cell 0 is the head's, and cell s + 1 that of slot s
abbrev pub cell_first : (slots cell : ℕ) → ℕ
cell_first n zero = 1
cell_first n (suc s) = first_link n s

-- Where a pool has a slot, and its fields the values with which they begin, all slots are free, in their order.
abbrev pub FreeLaw : Type 0
FreeLaw = (p : Place) (known : Values) → 0 < p.slots → ((cell : ℕ) → cell ≤ p.slots → known (p.head + cell) ≡ Some (cell_first p.slots cell))
    → IsFreeList p known (range_with_len 0 p.slots)
