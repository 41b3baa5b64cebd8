use Rattle.std.proofs.Common.{◌≡◌, ◌+◌, ◌++◌, ℕ, vec_len}
use Rattle.monitor.specs.Words.{setting_of}
use Rattle.trim_helper.specs.Helping.{IsHelper, count_published, place_published, taken_in}
use Rattle.trim_helper.specs.Endings.{AreEnded, HoldNone, count_lane, parts_of}
use Rattle.trim_helper.specs.Meeting.{HaveMet, count_parts}
use Rattle.trim_helper.specs.Moves.{Looks}
use Rattle.trim_helper.specs.Seen.{SameSight}
use Rattle.trim_helper.proofs.meeting.meet.Given as goal

abbrev pub invariant-ends : goal.invariant-ends
invariant-ends l = record {
  ended : AreEnded l.shared l.capacity l.rings l.left.items;
  none : HoldNone l.left.items;
  met : HaveMet (setting_of l.shared.plan) l.rings (taken_in l.seat) l.capacity;
  looks : Looks l.initial.rings l.rings;
  helper : IsHelper l.shared l.seat;
  count : (k : ℕ) → count_published l.seat k ≡ count_published l.initial.seat k;
  place : (k : ℕ) → place_published l.seat k ≡ place_published l.initial.seat k;
  notes : l.seat.view.notes ≡ l.initial.seat.view.notes;
  sight : SameSight l.initial.seat l.seat;
  counts : (k : ℕ) → count_lane k l.left.items + count_parts k (taken_in l.seat) ≡ count_lane k l.initial.left.items;
  parts : parts_of l.left.items ++ taken_in l.seat ≡ parts_of l.initial.left.items;
}

abbrev pub decreases-ends : goal.decreases-ends
decreases-ends l = vec_len l.left
