use Rattle.std.proofs.Common.{ℕ, ◌≡◌, ◌+◌, length, take}
use Rattle.dependence.specs.Trace.{base_of}
use Rattle.recover.specs.Dropping.{acts_in}
use Rattle.recover_logs.specs.Tables.{log_of}
use Rattle.recover.proofs.graph_of.graph_of.Given as goal

abbrev pub invariant-loop-step : goal.invariant-loop-step
invariant-loop-step l = record {
  log : l.graph.log ≡ acts_in (log_of (take l.step-index l.steps));
  room : l.graph.room + l.step-index ≡ length l.steps;
  lanes : l.graph.lanes ≡ l.fn.lanes;
  base : (m : ℕ) → base_of l.graph m ≡ 0;
}
