use Rattle.std.proofs.Common.{◌≡◌}
use Rattle.script_monitors.specs.Table.{state_of, SameSetting}
use Rattle.script_monitors.proofs.WaitLemmas.{woken_below}
use Rattle.script_monitors.proofs.monitors.Monitors.wake_all.Given as goal

-- the lanes so far were removed from the set
abbrev pub invariant-loop-lane : goal.invariant-loop-lane
invariant-loop-lane l = SameSetting l.initial.self l.self
    × (state_of l.self ≡ record (state_of l.initial.self) { waiting = woken_below (state_of l.initial.self).waiting l.object.0 l.lane })
