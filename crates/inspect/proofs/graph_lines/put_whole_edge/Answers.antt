use Rattle.std.proofs.Common.{rules, [], ◌∷◌, option_map}
use Rattle.std.specs.Io.KnownBytes.{Appends}
use Rattle.std.proofs.lemmas.Result.{on_ok_weaker, on_err_weaker}
use Rattle.inspect.specs.Written.{AppendsPart}
use Rattle.inspect.specs.GraphText.{edge_front, edge_end, object_text}
use Rattle.inspect.proofs.PartLemmas.{always, all_later, all_last, part_here, part_later}
use Rattle.inspect.proofs.graph_lines.put_whole_edge.Goals as goal

pub returns-in_err-put_edge_front : goal.returns-in_err-put_edge_front
returns-in_err-put_edge_front g c =
    let front = edge_front c.args.link in
    let object = object_text (option_map (λ x. x.now) c.args.names) c.args.link.object.0 in
    let end = edge_end c.args.link in
    let old = g.W.Write.contents c.args.writer.now in
    let one = g.W.Write.contents c.put_edge_front.new.writer in
    record {
      ok = search rules;
      part = always c.from_residual.result (part_here old one front (object ∷ end ∷ []) c.in_err-put_edge_front.ensures.part);
    }

pub returns-in_err-put_object : goal.returns-in_err-put_object
returns-in_err-put_object g c =
    let front = edge_front c.args.link in
    let object = object_text (option_map (λ x. x.now) c.args.names) c.args.link.object.0 in
    let end = edge_end c.args.link in
    let old = g.W.Write.contents c.args.writer.now in
    let one = g.W.Write.contents c.put_edge_front.new.writer in
    let two = g.W.Write.contents c.put_object.new.writer in
    record {
      ok = search rules;
      part = always c.from_residual-in_err-put_object.result (part_later old one two front (object ∷ end ∷ []) c.in_ok-put_edge_front.ensures.ok (part_here one two object (end ∷ []) c.in_err-put_object.ensures.part));
    }

pub returns : goal.returns
returns g c =
    let front = edge_front c.args.link in
    let object = object_text (option_map (λ x. x.now) c.args.names) c.args.link.object.0 in
    let end = edge_end c.args.link in
    let old = g.W.Write.contents c.args.writer.now in
    let one = g.W.Write.contents c.put_edge_front.new.writer in
    let two = g.W.Write.contents c.put_object.new.writer in
    let three = g.W.Write.contents c.put_edge_end.new.writer in
    record {
      ok = on_ok_weaker c.put_edge_end.result (λ (last : Appends two three end). all_later old one three front (object ∷ end ∷ []) c.in_ok-put_edge_front.ensures.ok (all_later one two three object (end ∷ []) c.in_ok-put_object.ensures.ok (all_last two three end last))) c.put_edge_end.ensures.ok;
      part = on_err_weaker c.put_edge_end.result (λ (last : AppendsPart two three end). part_later old one three front (object ∷ end ∷ []) c.in_ok-put_edge_front.ensures.ok (part_later one two three object (end ∷ []) c.in_ok-put_object.ensures.ok (part_here two three end [] last))) c.put_edge_end.ensures.part;
    }
