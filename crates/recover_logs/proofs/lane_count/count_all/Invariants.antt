use Rattle.std.proofs.Common.{◌≡◌, ◌≤◌, reverse, take}
use Rattle.recover_logs.specs.Lanes.{count_of}
use Rattle.recover_logs.proofs.lane_count.count_all.Given as goal

-- the count of the records so far, of which it is no more than there are
abbrev pub invariant-loop-entry : goal.invariant-loop-entry
invariant-loop-entry l = record {
  counted : l.count ≡ count_of (reverse (take l.entry-index l.records));
  place : l.count.place ≤ l.entry-index;
  held : l.count.held ≤ l.entry-index;
  ended : l.count.ended ≤ l.entry-index;
  since : l.count.since ≤ l.entry-index;
}
