use Rattle.std.proofs.Common.{◌≡◌, ◌*◌, take}
use Rattle.journal_batches.specs.Entries.{entries_bytes}
use Rattle.journal_batches.proofs.codec.put_entries.Given as goal

abbrev pub invariant-loop-i : goal.invariant-loop-i
invariant-loop-i l = take (16 * l.i) l.out ≡ entries_bytes (take l.i l.entries)
