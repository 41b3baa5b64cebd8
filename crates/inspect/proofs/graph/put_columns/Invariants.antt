use Rattle.std.specs.Io.KnownBytes.{Appends}
use Rattle.inspect.specs.Sections.{by_lane}
use Rattle.inspect.specs.WholeGraph.{column_text}
use Rattle.inspect.proofs.graph.put_columns.Given as goal

abbrev pub invariant-loop-lane : goal.invariant-loop-lane
invariant-loop-lane g l = Appends (g.W.Write.contents l.initial.writer) (g.W.Write.contents l.writer) (by_lane (column_text l.picture.firsts.now l.picture.dropped.now l.study) l.lane)
