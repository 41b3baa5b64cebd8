use Rattle.std.proofs.Common.{rules}
use Rattle.std.specs.Prelude.{nat_le}
use Rattle.std.proofs.KnownBytes.{Appends-trans}
use Rattle.std.proofs.lemmas.Result.{on_ok_weaker, on_err_weaker}
use Rattle.inspect.specs.GraphText.{node_front, node_end}
use Rattle.inspect.proofs.PartLemmas.{always, part_first, part_second}
use Rattle.inspect.proofs.graph_lines.put_node_line.Goals as goal

pub returns-in_err-put_node_front : goal.returns-in_err-put_node_front
returns-in_err-put_node_front g c =
    let front = node_front c.args.section in
    let end = node_end c.args.why (nat_le c.args.section.id.number c.args.numbering.kept) in
    record {
      ok = search rules;
      part = always c.from_residual.result (part_first (g.W.Write.contents c.args.writer.now) (g.W.Write.contents c.put_node_front.new.writer) front end c.in_err-put_node_front.ensures.part);
    }

pub returns : goal.returns
returns g c =
    let front = node_front c.args.section in
    let end = node_end c.args.why (nat_le c.args.section.id.number c.args.numbering.kept) in
    record {
      ok = on_ok_weaker c.put_node_end.result (Appends-trans (g.W.Write.contents c.args.writer.now) (g.W.Write.contents c.put_node_front.new.writer) (g.W.Write.contents c.put_node_end.new.writer) front end c.in_ok-put_node_front.ensures.ok) c.put_node_end.ensures.ok;
      part = on_err_weaker c.put_node_end.result (part_second (g.W.Write.contents c.args.writer.now) (g.W.Write.contents c.put_node_front.new.writer) (g.W.Write.contents c.put_node_end.new.writer) front end c.in_ok-put_node_front.ensures.ok) c.put_node_end.ensures.part;
    }
