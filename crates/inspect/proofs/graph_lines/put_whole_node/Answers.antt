use Rattle.std.proofs.Common.{rules, Option, subst}
use Rattle.std.specs.Io.KnownBytes.{Appends}
use Rattle.std.proofs.KnownBytes.{Appends-trans}
use Rattle.std.proofs.lemmas.Result.{on_ok_weaker, on_err_weaker}
use Rattle.recover.specs.declared.report.Why.{Why}
use Rattle.inspect.specs.GraphText.{node_line, order_edge, reason_in}
use Rattle.inspect.specs.Written.{AppendsPart}
use Rattle.inspect.proofs.PartLemmas.{always, part_first, part_second}
use Rattle.inspect.proofs.graph_lines.put_whole_node.Goals as goal

pub returns-in_err-put_node_line : goal.returns-in_err-put_node_line
returns-in_err-put_node_line g c =
    let node = node_line c.args.numbering (reason_in c.args.picture.dropped.now c.args.section.id) c.args.section in
    let edge = order_edge c.args.picture.firsts.now c.args.section in
    let old = g.W.Write.contents c.args.writer.now in
    let one = g.W.Write.contents c.put_node_line.new.writer in
    let told : AppendsPart old one node = subst (λ (why : Option Why). AppendsPart old one (node_line c.args.numbering why c.args.section)) c.reason_of-why.ensures c.in_err-put_node_line.ensures.part in
    record {
      ok = search rules;
      part = always c.from_residual.result (part_first old one node edge told);
    }

pub returns : goal.returns
returns g c =
    let node = node_line c.args.numbering (reason_in c.args.picture.dropped.now c.args.section.id) c.args.section in
    let edge = order_edge c.args.picture.firsts.now c.args.section in
    let old = g.W.Write.contents c.args.writer.now in
    let one = g.W.Write.contents c.put_node_line.new.writer in
    let told : Appends old one node = subst (λ (why : Option Why). Appends old one (node_line c.args.numbering why c.args.section)) c.reason_of-why.ensures c.in_ok-put_node_line.ensures.ok in
    record {
      ok = on_ok_weaker c.put_order_edge.result (Appends-trans old one (g.W.Write.contents c.put_order_edge.new.writer) node edge told) c.put_order_edge.ensures.ok;
      part = on_err_weaker c.put_order_edge.result (part_second old one (g.W.Write.contents c.put_order_edge.new.writer) node edge told) c.put_order_edge.ensures.part;
    }
