use Rattle.std.proofs.Common.{rules, ℕ, length}
use Rattle.undo_log.specs.StandsFor.{row_in}
use Rattle.inspect.specs.TransientText.{mark_text}
use Rattle.inspect.proofs.PartLemmas.{always}
use Rattle.inspect.proofs.LaneLemmas.{part_lane}
use Rattle.inspect.proofs.transient_line.put_marks.Goals as goal

pub returns-in_err-put_mark : goal.returns-in_err-put_mark
returns-in_err-put_mark g c = record {
  ok = search rules;
  part = always c.from_residual.result (part_lane (λ (f : ℕ). mark_text f (row_in c.args.rows.now f)) c.loop-field.field
      (g.W.Write.contents c.args.writer.now) (g.W.Write.contents c.loop-field.writer) (g.W.Write.contents c.put_mark.new.writer) (length c.args.rows.now) c.loop-field-test.true c.loop-field.invariant c.in_err-put_mark.ensures.part);
}
