use Rattle.std.proofs.Common.{ℕ, ◌<◌, ◌≤◌, slice_index}
use Rattle.dependence.specs.Trace.{sections_of}
use Rattle.store_memory.proofs.ends.are_within.Given as goal

-- the lanes so far are within
abbrev pub invariant-loop-lane : goal.invariant-loop-lane
invariant-loop-lane l = (k : ℕ) → k < l.lane → sections_of l.graph k ≤ slice_index l.cut k
