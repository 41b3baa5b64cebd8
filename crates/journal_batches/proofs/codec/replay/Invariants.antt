use Rattle.std.proofs.Common.{◌≡◌, drop}
use Rattle.journal_batches.specs.Entries.{replayed}
use Rattle.journal_batches.proofs.codec.replay.Given as goal

abbrev pub invariant-loop-entry : goal.invariant-loop-entry
invariant-loop-entry l = replayed (drop l.entry-index l.entries) l.image ≡ replayed l.entries l.initial.image
