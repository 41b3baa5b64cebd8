use Rattle.std.proofs.Common.{◌≡◌, ◌-◌, slice_index}
use Rattle.dependence.specs.Trace.{in_all}
use Rattle.store_memory.proofs.ends.records_from.Given as goal

-- those of the lanes so far
abbrev pub invariant-loop-lane : goal.invariant-loop-lane
invariant-loop-lane l = l.records ≡ in_all l.lane (λ k. slice_index l.behind k - slice_index l.places k)
