use Rattle.std.proofs.Common.{ℕ, ◌≡◌, ◌<◌, [], length}
use Rattle.store_memory.specs.Fresh.{log_in, room_in}
use Rattle.store_memory.proofs.fresh.clear_all.Given as goal

-- the lanes so far have none
abbrev pub invariant-loop-lane : goal.invariant-loop-lane
invariant-loop-lane l = record {
  size : length l.logs ≡ length l.fn.logs;
  empty : (k : ℕ) → k < l.lane → log_in l.logs k ≡ [];
  rooms : (k : ℕ) → room_in l.logs k ≡ room_in l.fn.logs k;
}
