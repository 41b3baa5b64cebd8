use Rattle.std.proofs.Common.{ℕ, ◌≡◌, ◌<◌, length}
use Rattle.heap_model.specs.Log.{lane, log_from}
use Rattle.heap_model.specs.Sections.{actions, ended}
use Rattle.heap_model.specs.Cuts.{counts_of}
use Rattle.law_cuts.proofs.plain.whole_cut.Given as goal

abbrev pub invariant-loop-l : goal.invariant-loop-l
invariant-loop-l l = record {
  long : length l.cut.counts ≡ 32;
  counts : (k : ℕ) → k < l.l → counts_of l.cut k ≡ ended (lane k (actions (log_from l.records)));
}
