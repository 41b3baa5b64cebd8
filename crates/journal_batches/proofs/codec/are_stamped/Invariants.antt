use Rattle.std.proofs.Common.{◌≡◌, ◌-◌, ◌*◌, drop}
use Rattle.journal_batches.specs.Batches.{all_stamped}
use Rattle.journal_batches.proofs.codec.are_stamped.Given as goal

abbrev pub invariant-loop-i : goal.invariant-loop-i
invariant-loop-i l = all_stamped l.n l.stamp l.half ≡ all_stamped (l.n - l.i) l.stamp (drop (l.i * 512) l.half)
