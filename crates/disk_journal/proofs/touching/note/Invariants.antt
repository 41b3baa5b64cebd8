use Rattle.std.proofs.Common.{◌≡◌, ◌+◌, ◌*◌, ◌<◌, ◌≤◌, ℕ}
use Rattle.std.specs.Vec.{vec_capacity, vec_len}
use Rattle.disk_journal.specs.Kept.{AreWithin, Touches, words_among}
use Rattle.disk_journal.proofs.touching.note.Given as goal

-- the words so far are noted
abbrev pub invariant-loop-word : goal.invariant-loop-word
invariant-loop-word l = record {
  within : (size : ℕ) → (l.first + l.word) * 8 ≤ size → AreWithin size l.fn.touched.items → AreWithin size l.touched.items;
  old : (i : ℕ) → Touches l.fn.touched.items i → Touches l.touched.items i;
  these : (i : ℕ) → l.first * 8 ≤ i → i < (l.first + l.word) * 8 → Touches l.touched.items i;
  few : (n : ℕ) → words_among n l.touched.items ≤ words_among n l.fn.touched.items + l.word;
  len : vec_len l.touched ≡ vec_len l.fn.touched + l.word;
  capacity : vec_capacity l.touched ≡ vec_capacity l.fn.touched;
}
