use Rattle.std.proofs.Common.{take}
use Rattle.std.specs.Io.KnownBytes.{Appends}
use Rattle.inspect.specs.ReportText.{dropped_lines}
use Rattle.inspect.proofs.report_lines.put_dropped.Given as goal

abbrev pub invariant-loop-section : goal.invariant-loop-section
invariant-loop-section g l = Appends (g.W.Write.contents l.initial.writer) (g.W.Write.contents l.writer) (dropped_lines (take l.section-index l.dropped))
