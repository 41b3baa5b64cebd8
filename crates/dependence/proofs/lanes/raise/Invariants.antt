use Rattle.std.proofs.Common.{ℕ, ◌≡◌, ◌<◌, ◌≤◌, max, slice_index}
use Rattle.dependence.proofs.lanes.raise.Given as goal

abbrev pub invariant-loop-l : goal.invariant-loop-l
invariant-loop-l l = record {
  raised : (k : ℕ) → k < l.l → slice_index l.base k ≡ max (slice_index l.fn.base k) (slice_index l.to k);
  rest : (k : ℕ) → l.l ≤ k → slice_index l.base k ≡ slice_index l.fn.base k;
}
