use Rattle.std.specs.Io.KnownBytes.{Appends}
use Rattle.inspect.specs.StudyText.{lane_lines}
use Rattle.inspect.proofs.study_lines.put_lanes.Given as goal

abbrev pub invariant-loop-lane : goal.invariant-loop-lane
invariant-loop-lane g l = Appends (g.W.Write.contents l.initial.writer) (g.W.Write.contents l.writer) (lane_lines l.lane l.control.rows)
