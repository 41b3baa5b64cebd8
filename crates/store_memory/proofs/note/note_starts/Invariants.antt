use Rattle.std.proofs.Common.{◌≡◌, ◌<◌, ◌≤◌, ℕ, length, slice_index}
use Rattle.store_memory.specs.Memory.{lane_in}
use Rattle.store_memory.proofs.note.note_starts.Given as goal

-- the lanes so far have their new starts
abbrev pub invariant-loop-lane : goal.invariant-loop-lane
invariant-loop-lane l = record {
  size : length l.lanes ≡ length l.initial.lanes;
  before : (k : ℕ) → k < l.lane → lane_in l.lanes k ≡ record (lane_in l.initial.lanes k) { start = slice_index l.places k };
  after : (k : ℕ) → l.lane ≤ k → lane_in l.lanes k ≡ lane_in l.initial.lanes k;
}
