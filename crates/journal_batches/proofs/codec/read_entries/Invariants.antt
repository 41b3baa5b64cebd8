use Rattle.std.proofs.Common.{◌≡◌, take}
use Rattle.journal_batches.specs.Batches.{entries_in, sectors_for}
use Rattle.journal_batches.specs.Spelled.{AreWords}
use Rattle.journal_batches.proofs.codec.read_entries.Given as goal

abbrev pub invariant-loop-k : goal.invariant-loop-k
invariant-loop-k l = record {
  items : l.entries.items ≡ take l.k (entries_in (sectors_for l.count) l.half);
  words : AreWords l.entries.items;
}
