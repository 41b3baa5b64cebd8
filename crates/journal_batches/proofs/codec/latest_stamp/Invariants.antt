use Rattle.std.proofs.Common.{◌≡◌, ℕ, ◌<◌, ◌≤◌}
use Rattle.journal_batches.specs.Batches.{stamp_at}
use Rattle.journal_batches.specs.Coded.{HasStamp}
use Rattle.journal_batches.proofs.codec.latest_stamp.Given as goal

abbrev pub invariant-loop-i : goal.invariant-loop-i
invariant-loop-i l = record {
  most : (k : ℕ) → k < l.i → stamp_at k l.half ≤ l.latest;
  none : l.i ≡ 0 → l.latest ≡ 0;
  one : 0 < l.i → HasStamp l.latest l.half;
}
