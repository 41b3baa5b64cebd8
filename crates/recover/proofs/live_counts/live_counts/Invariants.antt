use Rattle.std.proofs.Common.{ℕ, ◌≡◌, ◌<◌, ◌≤◌, length}
use Rattle.recover_heap.specs.Logs.{lanes_of}
use Rattle.recover.specs.Live.{IsLiveIn, live_at, nothing_live}
use Rattle.recover.proofs.live_counts.live_counts.Given as goal

abbrev pub invariant-loop-lane : goal.invariant-loop-lane
invariant-loop-lane l = record {
  all : length l.counts ≡ 32;
  before : (m : ℕ) → m < l.lane → IsLiveIn l.rows (lanes_of l.logs) m (live_at l.counts m);
  rest : (m : ℕ) → l.lane ≤ m → live_at l.counts m ≡ nothing_live;
}
