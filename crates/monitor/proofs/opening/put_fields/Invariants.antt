use Rattle.std.proofs.Common.{ℕ, ◌≡◌, ◌+◌, ◌<◌, length, slice_index}
use Rattle.monitor.specs.Words.{room, spaced}
use Rattle.monitor.proofs.opening.put_fields.Given as goal

-- the fields' values so far
abbrev pub invariant-loop-number : goal.invariant-loop-number
invariant-loop-number l = record {
  long : length l.words ≡ l.base + room (length l.heap);
  below : (i : ℕ) → i < l.base → slice_index l.words i ≡ 0;
  values : (f : ℕ) → f < l.number → slice_index l.words (l.base + spaced f) ≡ slice_index l.heap f;
}
