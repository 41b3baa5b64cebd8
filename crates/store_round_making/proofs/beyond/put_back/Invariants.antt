use Rattle.std.proofs.Common.{◌≡◌, ℕ, length, slice_index, take}
use Rattle.heap_model.specs.Log.{log_from}
use Rattle.store_round_making.specs.Beyond.{put_all_back}
use Rattle.store_round_making.proofs.beyond.put_back.Given as goal

-- the newest records so far are put back
abbrev pub invariant-loop-newer : goal.invariant-loop-newer
invariant-loop-newer l = record {
  size : length l.heap ≡ length l.initial.heap;
  back : (f : ℕ) → slice_index l.heap f ≡ put_all_back f (slice_index l.initial.heap f) (take l.newer (log_from l.beyond));
}
