use Rattle.std.proofs.Common.{ℕ, ◌≡◌, ◌<◌, ◌≤◌, length, slice_index}
use Rattle.store_round_memory.proofs.counting.at_most.Given as goal

abbrev pub invariant-loop-lane : goal.invariant-loop-lane
invariant-loop-lane l = record {
  within : (k : ℕ) → k < l.lane → slice_index l.least k ≤ slice_index l.many k;
  same : (k : ℕ) → k < l.lane → slice_index l.counts k ≤ slice_index l.many k → slice_index l.least k ≡ slice_index l.counts k;
  long : length l.least ≡ 32;
}
