use Rattle.std.proofs.Common.{rules}
use Rattle.inspect.specs.ReportText.{dropped_line}
use Rattle.inspect.proofs.PartLemmas.{part_item, always}
use Rattle.inspect.proofs.report_lines.put_dropped.Goals as goal

pub returns-in_err-put_section : goal.returns-in_err-put_section
returns-in_err-put_section g c = record {
  ok = search rules;
  part = always c.from_residual.result (part_item dropped_line c.args.dropped.now c.loop-section.section-index _ c.loop-section-test.true
      (g.W.Write.contents c.args.writer.now) (g.W.Write.contents c.loop-section.writer) (g.W.Write.contents c.put_section.new.writer) c.loop-section.invariant c.in_err-put_section.ensures.part);
}
