use Rattle.std.proofs.Common.{◌-◌, ◌≡◌, ◌≤◌}
use Rattle.trim_helper.specs.Taken.{Advances, HasGone, with_rings}
use Rattle.trim_helper.proofs.draining.apply_lane.Given as goal

abbrev pub invariant-records : goal.invariant-records
invariant-records g l = record {
  advances : Advances g.D.Disk.device (with_rings l.initial.store l.initial.rings l.initial.waiting) (with_rings l.store l.rings l.waiting) l.count;
  within : l.count ≤ l.most;
  gone : HasGone l.count l.lane (with_rings l.initial.store l.initial.rings l.initial.waiting) (with_rings l.store l.rings l.waiting);
  still : l.count ≡ 0 → with_rings l.store l.rings l.waiting ≡ with_rings l.initial.store l.initial.rings l.initial.waiting;
}

abbrev pub decreases-records : goal.decreases-records
decreases-records g l = l.most - l.count
