use Rattle.std.proofs.Common.{ℕ, ◌≡◌, ◌<◌, ◌≤◌, length, slice_index}
use Rattle.store_memory.specs.Ends.{slot_of}
use Rattle.store_memory.proofs.ends.places_behind.Given as goal

-- the lanes so far have their places
abbrev pub invariant-loop-lane : goal.invariant-loop-lane
invariant-loop-lane l = record {
  behind : (k : ℕ) → k < l.lane → slice_index l.places k ≡ slice_index l.ends (slot_of l.capacity l.lanes k (slice_index l.counts k));
  none : (k : ℕ) → l.lane ≤ k → slice_index l.places k ≡ 0;
  size : length l.places ≡ 32;
}
