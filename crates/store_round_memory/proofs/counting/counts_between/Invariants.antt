use Rattle.std.proofs.Common.{ℕ, ◌≡◌, ◌-◌, ◌<◌, length, slice_index}
use Rattle.store_round_memory.proofs.counting.counts_between.Given as goal

abbrev pub invariant-loop-lane : goal.invariant-loop-lane
invariant-loop-lane l = record {
  done : (k : ℕ) → k < l.lane → slice_index l.counts k ≡ slice_index l.places k - slice_index l.starts k;
  long : length l.counts ≡ 32;
}
