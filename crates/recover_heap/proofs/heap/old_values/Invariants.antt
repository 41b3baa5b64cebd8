use Rattle.std.proofs.Common.{ℕ, ◌≡◌, ◌<◌, length, take, slice_index, None}
use Rattle.std.specs.Prelude.{slice_index_or}
use Rattle.heap_model.specs.Log.{lane}
use Rattle.undo_log.specs.StandsFor.{settled_of}
use Rattle.recover_heap.specs.Heap.{first_old}
use Rattle.recover_logs.specs.Tables.{log_of}
use Rattle.recover_heap.proofs.heap.old_values.Given as goal

abbrev pub invariant-loop-step : goal.invariant-loop-step
invariant-loop-step l = record {
  lanes : length l.places ≡ 32;
  places : (k : ℕ) → slice_index l.places k ≡ length (lane k (log_of (take l.step-index l.steps)));
  size : length l.before.items ≡ l.fields;
  each : (f : ℕ) → f < l.fields → slice_index_or l.before.items f None ≡ first_old (settled_of l.rows) f (log_of (take l.step-index l.steps));
}
