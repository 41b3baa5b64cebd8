use Rattle.std.specs.Io.KnownBytes.{Appends}
use Rattle.inspect.specs.declared.form.Form.TheVariants.{Lines}
use Rattle.inspect.specs.Sections.{by_lane}
use Rattle.inspect.specs.SectionText.{section_text}
use Rattle.inspect.specs.StudyText.{lane_sections}
use Rattle.inspect.proofs.study_lines.put_all_sections.Given as goal

abbrev pub invariant-loop-lane : goal.invariant-loop-lane
invariant-loop-lane g l = Appends (g.W.Write.contents l.initial.writer) (g.W.Write.contents l.writer) (by_lane (lane_sections (section_text Lines) l.study) l.lane)
