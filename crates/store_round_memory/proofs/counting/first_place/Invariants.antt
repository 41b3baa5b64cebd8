use Rattle.std.proofs.Common.{ℕ, ◌<◌, ◌≤◌, slice_index}
use Rattle.store_round_memory.proofs.counting.first_place.Given as goal

abbrev pub invariant-loop-lane : goal.invariant-loop-lane
invariant-loop-lane l = record {
  within : l.first ≤ l.end;
  front : (k : ℕ) → k < l.lane → 0 < slice_index l.counts k → l.first ≤ slice_index l.fronts k;
}
