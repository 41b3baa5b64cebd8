use Rattle.std.proofs.Common.{◌≡◌, ◌*◌, take}
use Rattle.journal_batches.specs.Spelled.{sectors_bytes}
use Rattle.journal_batches.proofs.codec.spell_sectors.Given as goal

abbrev pub invariant-loop-i : goal.invariant-loop-i
invariant-loop-i l = take (l.i * 512) l.out ≡ sectors_bytes l.i l.stamp l.count l.entries
