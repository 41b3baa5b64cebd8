use Rattle.std.proofs.Common.{◌≡◌, ◌≤◌, ℕ, List, length, take}
use Rattle.block_disk.specs.Calls.{stops_of}
use Rattle.block_disk.specs.Memory.{durable_after}
use Rattle.block_disk.proofs.crash.durable_calls.Given as goal

abbrev pub decreases-loop-newest : goal.decreases-loop-newest
decreases-loop-newest l = length l.rest

-- no sync is among the calls left out
abbrev pub invariant-loop-newest : goal.invariant-loop-newest
invariant-loop-newest l = (l.rest ≡ take (length l.rest) l.fn.calls) × (length l.rest ≤ length l.fn.calls)
    × ((first : List ℕ) → durable_after first (stops_of l.rest) ≡ durable_after first (stops_of l.fn.calls))
