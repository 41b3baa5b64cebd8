use Rattle.std.proofs.Common.{◌≡◌, ◌≤◌, length, take}
use Rattle.heap_model.specs.Log.{log_from}
use Rattle.store_round_memory.proofs.Fronts.{Rests}
use Rattle.store_round_memory.proofs.Leaving.{Left}
use Rattle.store_round_memory.proofs.keeping.leave.Given as goal

-- what is left of the first records stands at the front
abbrev pub invariant-loop-place : goal.invariant-loop-place
invariant-loop-place l = record {
  done : Left l.counts l.initial.records l.records l.place l.left;
  rests : Rests l.rest l.counts (log_from (take l.place l.initial.records));
  long : length l.rest ≡ 32;
  front : l.from ≤ l.left;
  before : take l.from l.records ≡ take l.from l.initial.records;
}
