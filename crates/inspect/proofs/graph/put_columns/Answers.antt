use Rattle.std.proofs.Common.{rules}
use Rattle.inspect.specs.WholeGraph.{column_text}
use Rattle.inspect.proofs.PartLemmas.{always}
use Rattle.inspect.proofs.LaneLemmas.{next_lane, part_lane}
use Rattle.inspect.proofs.graph.put_columns.Goals as goal

pub returns-in_err-put_column : goal.returns-in_err-put_column
returns-in_err-put_column g c = record {
  ok = search rules;
  part = always c.from_residual.result (part_lane (column_text c.args.picture.firsts.now c.args.picture.dropped.now c.args.study.now) c.loop-lane.lane (g.W.Write.contents c.args.writer.now) (g.W.Write.contents c.loop-lane.writer)
      (g.W.Write.contents c.put_column.new.writer) c.args.study.now.layout.lanes c.loop-lane-test.true c.loop-lane.invariant c.in_err-put_column.ensures.part);
}

pub loop-lane-preserved : goal.loop-lane-preserved
loop-lane-preserved g c =
    next_lane (column_text c.args.picture.firsts.now c.args.picture.dropped.now c.args.study.now) c.loop-lane.lane (g.W.Write.contents c.args.writer.now) (g.W.Write.contents c.loop-lane.writer)
    (g.W.Write.contents c.put_column.new.writer) c.loop-lane.invariant c.in_ok-put_column.ensures.ok
