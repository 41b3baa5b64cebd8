use Rattle.std.proofs.Common.{◌≡◌, ◌<◌, ◌≤◌}
use Rattle.trim_helper.specs.Taken.{with_rings}
use Rattle.trim_helper.proofs.Looking.{Looked}
use Rattle.trim_helper.proofs.draining.drain_rings.Given as goal

abbrev pub invariant-loop-again : goal.invariant-loop-again
invariant-loop-again g l = record {
  looked : Looked g.D.Disk.device l.most (with_rings l.initial.store l.initial.rings l.initial.waiting) (with_rings l.store l.rings l.waiting) l.count l.again;
  within : l.count ≤ l.most;
  start : l.again ≡ 0 → (l.count ≡ 0) × (with_rings l.store l.rings l.waiting ≡ with_rings l.initial.store l.initial.rings l.initial.waiting);
  low : 0 < l.again → l.count < l.most;
}
