use Rattle.std.proofs.Common.{rules, ℕ, subst}
use Rattle.undo_log.specs.StandsFor.{row_of}
use Rattle.inspect.specs.Written.{AppendsPart}
use Rattle.inspect.specs.StudyText.{lane_line}
use Rattle.inspect.proofs.PartLemmas.{always}
use Rattle.inspect.proofs.LaneLemmas.{part_lane}
use Rattle.inspect.proofs.study_lines.put_lanes.Goals as goal

pub returns-in_err-put_lane : goal.returns-in_err-put_lane
returns-in_err-put_lane g c = record {
  ok = search rules;
  part = always c.from_residual.result (part_lane (λ (l : ℕ). lane_line l (row_of c.args.control.now.rows l)) c.loop-lane.lane
      (g.W.Write.contents c.args.writer.now) (g.W.Write.contents c.loop-lane.writer) (g.W.Write.contents c.put_lane.new.writer) c.args.layout.now.lanes c.loop-lane-test.true c.loop-lane.invariant (subst (λ (k : ℕ). AppendsPart (g.W.Write.contents c.loop-lane.writer) (g.W.Write.contents c.put_lane.new.writer) (lane_line c.loop-lane.lane (row_of c.args.control.now.rows k))) c.from.ensures c.in_err-put_lane.ensures.part));
}
