use Rattle.trim_helper.specs.Endings.{IsComplete}
use Rattle.trim_helper.proofs.closing_down.check_ended.Given as goal

abbrev pub invariant-loop-lane : goal.invariant-loop-lane
invariant-loop-lane l = record { complete : IsComplete l.lane l.ended }
