use Rattle.std.proofs.Common.{take}
use Rattle.journal_batches.specs.Spelled.{AreWords}
use Rattle.disk_journal.proofs.syncing.words_law.Given as goal

-- so it is of the entries until here
abbrev pub invariant-loop-e : goal.invariant-loop-e
invariant-loop-e l = AreWords (take l.e-index l.entries)
