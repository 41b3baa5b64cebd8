use Rattle.std.proofs.Common.{◌≡◌}
use Rattle.script_monitors.specs.Table.{state_of}
use Rattle.script_monitors.specs.WaitSets.{wait_set}
use Rattle.script_monitors.proofs.monitors.Monitors.wait_set.Given as goal

-- the lanes so far that are in the set
abbrev pub invariant-loop-lane : goal.invariant-loop-lane
invariant-loop-lane l = l.set.items ≡ wait_set l.lane (state_of l.self) l.object.0
