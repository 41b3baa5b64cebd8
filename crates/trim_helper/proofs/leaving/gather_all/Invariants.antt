use Rattle.trim_helper.proofs.leaving.gather_all.Given as goal
use Rattle.std.proofs.Common.{◌≡◌, ◌++◌, ℕ, vec_len}
use Rattle.trim_helper.specs.Helping.{IsHelper, count_published, taken_in}
use Rattle.trim_helper.specs.Endings.{parts_of}
use Rattle.trim_helper.specs.Leaving.{HaveSeats}
use Rattle.trim_helper.specs.Seen.{SameSight}

abbrev pub invariant-ends : goal.invariant-ends
invariant-ends l = record {
  seats : HaveSeats l.shared l.left.items;
  helper : IsHelper l.shared l.seat;
  count : (k : ℕ) → count_published l.seat k ≡ count_published l.initial.seat k;
  sight : SameSight l.initial.seat l.seat;
  parts : parts_of l.left.items ++ taken_in l.seat ≡ parts_of l.initial.left.items ++ taken_in l.initial.seat;
}

abbrev pub decreases-ends : goal.decreases-ends
decreases-ends l = vec_len l.left
