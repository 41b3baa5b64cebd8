use Rattle.std.proofs.Common.{◌≡◌}
use Rattle.recover_heap.specs.Logs.{lanes_of}
use Rattle.recover.specs.Dropping.{unsettled_sections}
use Rattle.recover.specs.Live.{AreReported}
use Rattle.recover.proofs.dropping.dropped_sections.Given as goal

abbrev pub invariant-loop-lane : goal.invariant-loop-lane
invariant-loop-lane l = record {
  same : l.graph ≡ l.initial.graph;
  reported : AreReported l.counts l.initial.graph (unsettled_sections l.fn.rows (lanes_of l.fn.logs) l.lane) l.dropped.items;
}
