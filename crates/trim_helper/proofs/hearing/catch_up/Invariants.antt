use Rattle.monitor.specs.Views.{GoesOn}
use Rattle.trim_helper.specs.Hearing.{IsNoted, KeepsRecords}
use Rattle.trim_helper.specs.Helping.{IsHelper}
use Rattle.trim_helper.specs.Seen.{AreHeard, SeesFrom}
use Rattle.trim_helper.proofs.hearing.catch_up.Given as goal

abbrev pub invariant-loop-lane : goal.invariant-loop-lane
invariant-loop-lane l = record {
  seat : IsHelper l.shared l.seat;
  noted : IsNoted l.initial.seat l.seat;
  goes_on : GoesOn l.seat.view.history l.initial.seat.view.history;
  sees : SeesFrom l.seat 0 l.rings;
  heard : AreHeard l.lane l.rings;
  records : KeepsRecords l.initial.rings l.rings;
}
