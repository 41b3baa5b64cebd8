use Rattle.std.proofs.Common.{◌≡◌, ◌≤◌, ◌*◌}
use Rattle.store_image.specs.NewRecords.{fresh_count}
use Rattle.store_image.proofs.logging.count_fresh.Given as goal

-- the records of the lanes so far, of which there aren't too many
abbrev pub invariant-loop-lane : goal.invariant-loop-lane
invariant-loop-lane g l = record {
  count : l.count ≡ fresh_count (g.F.NewRecords.fresh l.fresh) l.lane;
  few : l.count ≤ 1048576 * l.lane;
}
