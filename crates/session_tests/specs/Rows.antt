-- A plain row of values as cells: one cell may be broken, and stores may fail.
use Rattle.std.specs.Prelude.{ℕ, ◌==◌, nat_lt, if◌then◌else◌, Bool, List, length, Option, Some, None, slice_get}
use Rattle.pool.specs.Knowledge.{Knowledge}

-- why a row fails: it has no such cell, or that cell is broken
abbrev pub load_fault_in : List ℕ → (broken : ℕ) → ℕ → Option (Unit {0})
load_fault_in xs b f = if f == b then Some tt else (if nat_lt f (length xs) then None else Some tt)

abbrev pub store_fault_in : List ℕ → (stuck : Bool) → ℕ → ℕ → Option (Unit {0})
store_fault_in xs stuck f g = if stuck then Some tt else (if nat_lt f (length xs) then (if nat_lt g (length xs) then None else Some tt) else Some tt)

abbrev pub row_knows : List ℕ → (broken : ℕ) → (stuck : Bool) → Knowledge (Unit {0})
row_knows xs b stuck = record { value = λ f. slice_get xs f; load_fault = load_fault_in xs b; store_fault = store_fault_in xs stuck }
