use Rattle.std.proofs.Common.{rules}
use Rattle.inspect.specs.declared.form.Form.TheVariants.{Lines}
use Rattle.inspect.specs.SectionText.{section_text}
use Rattle.inspect.specs.StudyText.{lane_sections}
use Rattle.inspect.proofs.PartLemmas.{always}
use Rattle.inspect.proofs.LaneLemmas.{next_lane, part_lane}
use Rattle.inspect.proofs.study_lines.put_all_sections.Goals as goal

pub returns-in_err-put_lane_sections : goal.returns-in_err-put_lane_sections
returns-in_err-put_lane_sections g c = record {
  ok = search rules;
  part = always c.from_residual.result (part_lane (lane_sections (section_text Lines) c.args.study.now) c.loop-lane.lane (g.W.Write.contents c.args.writer.now) (g.W.Write.contents c.loop-lane.writer)
      (g.W.Write.contents c.put_lane_sections.new.writer) c.args.study.now.layout.lanes c.loop-lane-test.true c.loop-lane.invariant c.in_err-put_lane_sections.ensures.part);
}

pub loop-lane-preserved : goal.loop-lane-preserved
loop-lane-preserved g c =
    next_lane (lane_sections (section_text Lines) c.args.study.now) c.loop-lane.lane (g.W.Write.contents c.args.writer.now) (g.W.Write.contents c.loop-lane.writer)
    (g.W.Write.contents c.put_lane_sections.new.writer) c.loop-lane.invariant c.in_ok-put_lane_sections.ensures.ok
