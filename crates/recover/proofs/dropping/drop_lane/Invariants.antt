use Rattle.std.proofs.Common.{◌≡◌, ◌-◌, ◌++◌, List}
use Rattle.heap_model.specs.Sections.{Section}
use Rattle.recover.specs.Dropping.{sections_after}
use Rattle.recover.specs.Live.{AreReported, live_at}
use Rattle.recover.proofs.dropping.drop_lane.Given as goal

abbrev pub invariant-loop-before : goal.invariant-loop-before
invariant-loop-before l = record {
  same : l.graph ≡ l.initial.graph;
  added : (sections : List Section) → AreReported l.counts l.initial.graph sections l.initial.dropped.items →
      AreReported l.counts l.initial.graph (sections ++ sections_after l.fn.lane.0 (live_at l.counts l.fn.lane.0).settled (l.before - (live_at l.counts l.fn.lane.0).settled)) l.dropped.items;
}
