use Rattle.std.proofs.Common.{◌≡◌, ◌<◌, ℕ}
use Rattle.store_memory.specs.Memory.{lane_in}
use Rattle.store_memory.proofs.check.any_open.Given as goal

-- the lanes so far hold nothing
abbrev pub invariant-loop-state : goal.invariant-loop-state
invariant-loop-state l = (k : ℕ) → k < l.state-index → (lane_in l.lanes k).held ≡ 0
