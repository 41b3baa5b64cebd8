use Rattle.std.proofs.Common.{rules, List, [], ◌∷◌, subst}
use Rattle.std.specs.Io.KnownBytes.{Appends}
use Rattle.std.proofs.lemmas.Result.{on_ok_weaker, on_err_weaker}
use Rattle.image_parts.specs.declared.guard_row.GuardRow.{GuardRow}
use Rattle.inspect.specs.Written.{AppendsPart}
use Rattle.inspect.specs.StudyText.{image_line, control_line, lane_lines}
use Rattle.inspect.specs.TransientText.{transient_line}
use Rattle.inspect.proofs.PartLemmas.{always, all_later, all_last, part_here, part_later}
use Rattle.inspect.proofs.study_lines.put_head.Goals as goal

pub returns-in_err-put_image : goal.returns-in_err-put_image
returns-in_err-put_image g c =
    let s = c.args.study.now in
    let image = image_line s.layout in
    let control = control_line s.slot s.control in
    let marks = transient_line s.guards.items in
    let lanes = lane_lines s.layout.lanes s.control.rows in
    record {
      ok = search rules;
      part = always c.from_residual.result (part_here (g.W.Write.contents c.args.writer.now) (g.W.Write.contents c.put_image.new.writer) image (control ∷ marks ∷ lanes ∷ []) c.in_err-put_image.ensures.part);
    }

pub returns-in_err-put_control : goal.returns-in_err-put_control
returns-in_err-put_control g c =
    let s = c.args.study.now in
    let image = image_line s.layout in
    let control = control_line s.slot s.control in
    let marks = transient_line s.guards.items in
    let lanes = lane_lines s.layout.lanes s.control.rows in
    let old = g.W.Write.contents c.args.writer.now in
    let one = g.W.Write.contents c.put_image.new.writer in
    let two = g.W.Write.contents c.put_control.new.writer in
    record {
      ok = search rules;
      part = always c.from_residual-in_err-put_control.result (part_later old one two image (control ∷ marks ∷ lanes ∷ []) c.in_ok-put_image.ensures.ok (part_here one two control (marks ∷ lanes ∷ []) c.in_err-put_control.ensures.part));
    }

pub returns-in_err-put_transients : goal.returns-in_err-put_transients
returns-in_err-put_transients g c =
    let s = c.args.study.now in
    let image = image_line s.layout in
    let control = control_line s.slot s.control in
    let marks = transient_line s.guards.items in
    let lanes = lane_lines s.layout.lanes s.control.rows in
    let old = g.W.Write.contents c.args.writer.now in
    let one = g.W.Write.contents c.put_image.new.writer in
    let two = g.W.Write.contents c.put_control.new.writer in
    let three = g.W.Write.contents c.put_transients.new.writer in
    record {
      ok = search rules;
      part = always c.from_residual-in_err-put_transients.result (part_later old one three image (control ∷ marks ∷ lanes ∷ []) c.in_ok-put_image.ensures.ok
          (part_later one two three control (marks ∷ lanes ∷ []) c.in_ok-put_control.ensures.ok (part_here two three marks (lanes ∷ [])
          (subst (λ (rows : List GuardRow). AppendsPart two three (transient_line rows)) c.deref.ensures.value c.in_err-put_transients.ensures.part))));
    }

pub returns : goal.returns
returns g c =
    let s = c.args.study.now in
    let image = image_line s.layout in
    let control = control_line s.slot s.control in
    let marks = transient_line s.guards.items in
    let lanes = lane_lines s.layout.lanes s.control.rows in
    let old = g.W.Write.contents c.args.writer.now in
    let one = g.W.Write.contents c.put_image.new.writer in
    let two = g.W.Write.contents c.put_control.new.writer in
    let three = g.W.Write.contents c.put_transients.new.writer in
    let four = g.W.Write.contents c.put_lanes.new.writer in
    let told : Appends two three marks = subst (λ (rows : List GuardRow). Appends two three (transient_line rows)) c.deref.ensures.value c.in_ok-put_transients.ensures.ok in
    record {
      ok = on_ok_weaker c.put_lanes.result (λ (last : Appends three four lanes). all_later old one four image (control ∷ marks ∷ lanes ∷ []) c.in_ok-put_image.ensures.ok
          (all_later one two four control (marks ∷ lanes ∷ []) c.in_ok-put_control.ensures.ok
          (all_later two three four marks (lanes ∷ []) told (all_last three four lanes last)))) c.put_lanes.ensures.ok;
      part = on_err_weaker c.put_lanes.result (λ (last : AppendsPart three four lanes). part_later old one four image (control ∷ marks ∷ lanes ∷ []) c.in_ok-put_image.ensures.ok
          (part_later one two four control (marks ∷ lanes ∷ []) c.in_ok-put_control.ensures.ok
          (part_later two three four marks (lanes ∷ []) told (part_here three four lanes [] last)))) c.put_lanes.ensures.part;
    }
