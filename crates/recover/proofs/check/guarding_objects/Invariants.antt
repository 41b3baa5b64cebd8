use Rattle.std.proofs.Common.{ℕ, ◌≡◌, ◌<◌, ◌≤◌, length}
use Rattle.std.specs.Prelude.{vec_capacity}
use Rattle.recover_logs.specs.Logs as logs
use Rattle.recover_heap.specs.Logs.{logged_guard_in}
use Rattle.recover.proofs.check.guarding_objects.Given as goal

abbrev pub invariant-loop-row : goal.invariant-loop-row
invariant-loop-row l = record {
  count : length l.objects.items ≡ l.row-index;
  room : length l.guards ≤ vec_capacity l.objects;
  each : (f : ℕ) → f < l.row-index → logs.guard_in l.objects.items f ≡ logged_guard_in l.guards f;
}
