use Rattle.std.proofs.Common.{◌≡◌, ◌+◌, ◌≤◌, List, ℕ, length, take}
use Rattle.block_disk.specs.Bytes.{part}
use Rattle.journal_batches.specs.Entries.{replayed}
use Rattle.disk_journal.proofs.pages.put_words.Given as goal

-- the words so far are there
abbrev pub invariant-loop-entry : goal.invariant-loop-entry
invariant-loop-entry l = record {
  size : length l.out ≡ length l.fn.out;
  put : (image : List ℕ) → l.from + length l.fn.out ≤ length image → l.fn.out ≡ part l.from (length l.fn.out) image
      → l.out ≡ part l.from (length l.fn.out) (replayed (take l.entry-index l.run) image);
}
