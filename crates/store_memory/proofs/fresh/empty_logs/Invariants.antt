use Rattle.std.proofs.Common.{ℕ, ◌≡◌, ◌<◌, ◌≤◌, [], length, vec_capacity}
use Rattle.store_memory.specs.Fresh.{log_in, room_in}
use Rattle.store_memory.proofs.fresh.empty_logs.Given as goal

-- the lanes so far have their logs
abbrev pub invariant-loop : goal.invariant-loop
invariant-loop l = record {
  count : length l.logs.items ≡ l.counter;
  within : l.counter ≤ l.lanes;
  reserved : l.lanes ≤ vec_capacity l.logs;
  empty : (m : ℕ) → log_in l.logs.items m ≡ [];
  rooms : (m : ℕ) → m < length l.logs.items → l.room ≤ room_in l.logs.items m;
}
