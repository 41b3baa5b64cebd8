use Rattle.std.proofs.Common.{◌≡◌, ◌≤◌}
use Rattle.std.specs.Vec.{vec_capacity, vec_len}
use Rattle.disk_journal.proofs.WordLemmas.{AreTaken}
use Rattle.disk_journal.proofs.syncing.take_words.Given as goal

-- the words at the places so far are taken
abbrev pub invariant-loop-i : goal.invariant-loop-i
invariant-loop-i l = record {
  taken : AreTaken l.image l.places l.i l.next.items;
  len : vec_len l.next ≤ l.i;
  capacity : vec_capacity l.next ≡ vec_capacity l.fn.next;
}
