use Rattle.std.proofs.Common.{◌≡◌, length, slice_index, sum}
use Rattle.std.specs.Prelude.{All}
use Rattle.recover_logs.specs.Monitors.{number_at}
use Rattle.recover_logs.specs.Logs.{guard_in}
use Rattle.recover_logs.specs.Logs.{lanes_of}
use Rattle.recover_logs.specs.Tables.{IsLow, log_of, IsMidway}
use Rattle.recover_logs.proofs.replay.replay.Given as goal

abbrev pub invariant-loop-next : goal.invariant-loop-next
invariant-loop-next l = record {
  all : length l.left ≡ 32;
  low : All IsLow l.steps.items;
  midway : IsMidway (guard_in l.fn.guards) (number_at l.initial.monitors) (lanes_of l.fn.logs) (log_of l.steps.items) l.monitors (slice_index l.left);
}

abbrev pub decreases-loop-next : goal.decreases-loop-next
decreases-loop-next l = sum l.left
