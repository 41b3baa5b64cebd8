use Rattle.std.proofs.Common.{rules, [], ◌∷◌}
use Rattle.std.specs.Io.KnownBytes.{Appends}
use Rattle.std.proofs.lemmas.Result.{on_ok_weaker, on_err_weaker}
use Rattle.inspect.specs.declared.form.Form.TheVariants.{Lines}
use Rattle.inspect.specs.Written.{AppendsPart}
use Rattle.inspect.specs.SectionText.{link_text}
use Rattle.inspect.specs.StudyText.{head_text, sections_text, links_text, end_text}
use Rattle.inspect.proofs.PartLemmas.{always, all_later, all_last, part_here, part_later}
use Rattle.inspect.proofs.study_lines.put_study.Goals as goal

pub returns-in_err-put_head : goal.returns-in_err-put_head
returns-in_err-put_head g c =
    let s = c.args.study.now in
    let head = head_text s in
    let sections = sections_text s in
    let links = links_text (link_text Lines) s in
    let end = end_text s in
    let old = g.W.Write.contents c.args.writer.now in
    let one = g.W.Write.contents c.put_head.new.writer in
    record {
      ok = search rules;
      part = always c.from_residual.result (part_here old one head (sections ∷ links ∷ end ∷ []) c.in_err-put_head.ensures.part);
    }

pub returns-in_err-put_all_sections : goal.returns-in_err-put_all_sections
returns-in_err-put_all_sections g c =
    let s = c.args.study.now in
    let head = head_text s in
    let sections = sections_text s in
    let links = links_text (link_text Lines) s in
    let end = end_text s in
    let old = g.W.Write.contents c.args.writer.now in
    let one = g.W.Write.contents c.put_head.new.writer in
    let two = g.W.Write.contents c.put_all_sections.new.writer in
    record {
      ok = search rules;
      part = always c.from_residual-in_err-put_all_sections.result (part_later old one two head (sections ∷ links ∷ end ∷ []) c.in_ok-put_head.ensures.ok
          (part_here one two sections (links ∷ end ∷ []) c.in_err-put_all_sections.ensures.part));
    }

pub returns-in_err-put_all_links : goal.returns-in_err-put_all_links
returns-in_err-put_all_links g c =
    let s = c.args.study.now in
    let head = head_text s in
    let sections = sections_text s in
    let links = links_text (link_text Lines) s in
    let end = end_text s in
    let old = g.W.Write.contents c.args.writer.now in
    let one = g.W.Write.contents c.put_head.new.writer in
    let two = g.W.Write.contents c.put_all_sections.new.writer in
    let three = g.W.Write.contents c.put_all_links.new.writer in
    record {
      ok = search rules;
      part = always c.from_residual-in_err-put_all_links.result (part_later old one three head (sections ∷ links ∷ end ∷ []) c.in_ok-put_head.ensures.ok
          (part_later one two three sections (links ∷ end ∷ []) c.in_ok-put_all_sections.ensures.ok (part_here two three links (end ∷ []) c.in_err-put_all_links.ensures.part)));
    }

pub returns : goal.returns
returns g c =
    let s = c.args.study.now in
    let head = head_text s in
    let sections = sections_text s in
    let links = links_text (link_text Lines) s in
    let end = end_text s in
    let old = g.W.Write.contents c.args.writer.now in
    let one = g.W.Write.contents c.put_head.new.writer in
    let two = g.W.Write.contents c.put_all_sections.new.writer in
    let three = g.W.Write.contents c.put_all_links.new.writer in
    let four = g.W.Write.contents c.put_end.new.writer in
    record {
      ok = on_ok_weaker c.put_end.result (λ (last : Appends three four end). all_later old one four head (sections ∷ links ∷ end ∷ []) c.in_ok-put_head.ensures.ok
          (all_later one two four sections (links ∷ end ∷ []) c.in_ok-put_all_sections.ensures.ok (all_later two three four links (end ∷ []) c.in_ok-put_all_links.ensures.ok (all_last three four end last)))) c.put_end.ensures.ok;
      part = on_err_weaker c.put_end.result (λ (last : AppendsPart three four end). part_later old one four head (sections ∷ links ∷ end ∷ []) c.in_ok-put_head.ensures.ok
          (part_later one two four sections (links ∷ end ∷ []) c.in_ok-put_all_sections.ensures.ok (part_later two three four links (end ∷ []) c.in_ok-put_all_links.ensures.ok (part_here three four end [] last)))) c.put_end.ensures.part;
    }
