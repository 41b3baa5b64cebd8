use Rattle.std.proofs.Common.{ℕ, ◌≡◌, ◌-◌, ◌<◌, ◌≤◌, if◌then◌else◌, nat_lt, length, slice_index}
use Rattle.store_round_memory.proofs.Fronts.{Moved}
use Rattle.store_round_memory.proofs.counting.move_fronts.Given as goal

-- the first lanes' fronts are past the place's, or as they were
abbrev pub invariant-loop-lane : goal.invariant-loop-lane
invariant-loop-lane l = record {
  done : (k : ℕ) → k < l.lane → slice_index l.fronts k ≡ (if nat_lt (slice_index l.initial.fronts k) l.from then slice_index l.initial.fronts k else length l.records);
  rest : (k : ℕ) → l.lane ≤ k → slice_index l.fronts k ≡ slice_index l.initial.fronts k;
  long : length l.fronts ≡ 32;
}

-- the newest records are looked at
abbrev pub invariant-loop-newer : goal.invariant-loop-newer
invariant-loop-newer l = Moved l.records l.from l.fronts (length l.records - l.newer)
