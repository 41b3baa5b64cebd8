use Rattle.std.proofs.Common.{rules, [], ◌∷◌, codes, option_map}
use Rattle.std.specs.Io.KnownBytes.{Appends}
use Rattle.std.proofs.lemmas.Result.{on_ok_weaker, on_err_weaker}
use Rattle.inspect.specs.Written.{AppendsPart}
use Rattle.inspect.specs.GraphText.{link_edge}
use Rattle.inspect.specs.Pieces.{line}
use Rattle.inspect.specs.StudyText.{links_text}
use Rattle.inspect.specs.WholeGraph.{graph_head, columns_text}
use Rattle.inspect.proofs.PartLemmas.{always, all_later, all_last, part_here, part_later}
use Rattle.inspect.proofs.graph.put_graph.Goals as goal

pub returns-in_err-put_head : goal.returns-in_err-put_head
returns-in_err-put_head g c =
    let s = c.args.study.now in
    let firsts = c.args.picture.firsts.now in
    let columns = columns_text firsts c.args.picture.dropped.now s in
    let links = links_text (link_edge (option_map (λ x. x.now) c.args.picture.names) firsts) s in
    let end = line (codes "}" ∷ []) in
    let old = g.W.Write.contents c.args.writer.now in
    let one = g.W.Write.contents c.put_head.new.writer in
    record {
      ok = search rules;
      part = always c.from_residual.result (part_here old one graph_head (columns ∷ links ∷ end ∷ []) c.in_err-put_head.ensures.part);
    }

pub returns-in_err-put_columns : goal.returns-in_err-put_columns
returns-in_err-put_columns g c =
    let s = c.args.study.now in
    let firsts = c.args.picture.firsts.now in
    let columns = columns_text firsts c.args.picture.dropped.now s in
    let links = links_text (link_edge (option_map (λ x. x.now) c.args.picture.names) firsts) s in
    let end = line (codes "}" ∷ []) in
    let old = g.W.Write.contents c.args.writer.now in
    let one = g.W.Write.contents c.put_head.new.writer in
    let two = g.W.Write.contents c.put_columns.new.writer in
    record {
      ok = search rules;
      part = always c.from_residual-in_err-put_columns.result (part_later old one two graph_head (columns ∷ links ∷ end ∷ []) c.in_ok-put_head.ensures.ok (part_here one two columns (links ∷ end ∷ []) c.in_err-put_columns.ensures.part));
    }

pub returns-in_err-put_all_links : goal.returns-in_err-put_all_links
returns-in_err-put_all_links g c =
    let s = c.args.study.now in
    let firsts = c.args.picture.firsts.now in
    let columns = columns_text firsts c.args.picture.dropped.now s in
    let links = links_text (link_edge (option_map (λ x. x.now) c.args.picture.names) firsts) s in
    let end = line (codes "}" ∷ []) in
    let old = g.W.Write.contents c.args.writer.now in
    let one = g.W.Write.contents c.put_head.new.writer in
    let two = g.W.Write.contents c.put_columns.new.writer in
    let three = g.W.Write.contents c.put_all_links.new.writer in
    record {
      ok = search rules;
      part = always c.from_residual-in_err-put_all_links.result (part_later old one three graph_head (columns ∷ links ∷ end ∷ []) c.in_ok-put_head.ensures.ok (part_later one two three columns (links ∷ end ∷ []) c.in_ok-put_columns.ensures.ok (part_here two three links (end ∷ []) c.in_err-put_all_links.ensures.part)));
    }

pub returns : goal.returns
returns g c =
    let s = c.args.study.now in
    let firsts = c.args.picture.firsts.now in
    let columns = columns_text firsts c.args.picture.dropped.now s in
    let links = links_text (link_edge (option_map (λ x. x.now) c.args.picture.names) firsts) s in
    let end = line (codes "}" ∷ []) in
    let old = g.W.Write.contents c.args.writer.now in
    let one = g.W.Write.contents c.put_head.new.writer in
    let two = g.W.Write.contents c.put_columns.new.writer in
    let three = g.W.Write.contents c.put_all_links.new.writer in
    let four = g.W.Write.contents c.put_line.new.writer in
    record {
      ok = on_ok_weaker c.put_line.result (λ (last : Appends three four end). all_later old one four graph_head (columns ∷ links ∷ end ∷ []) c.in_ok-put_head.ensures.ok (all_later one two four columns (links ∷ end ∷ []) c.in_ok-put_columns.ensures.ok (all_later two three four links (end ∷ []) c.in_ok-put_all_links.ensures.ok (all_last three four end last)))) c.put_line.ensures.ok;
      part = on_err_weaker c.put_line.result (λ (last : AppendsPart three four end). part_later old one four graph_head (columns ∷ links ∷ end ∷ []) c.in_ok-put_head.ensures.ok (part_later one two four columns (links ∷ end ∷ []) c.in_ok-put_columns.ensures.ok (part_later two three four links (end ∷ []) c.in_ok-put_all_links.ensures.ok (part_here three four end [] last)))) c.put_line.ensures.part;
    }
