use Rattle.std.proofs.Common.{rules, Result, IfErr, subst}
use Rattle.std.proofs.lemmas.Result.{on_ok_weaker}
use Rattle.std.specs.Io.KnownBytes.{Appends}
use Rattle.inspect.specs.declared.error.InspectError.{InspectError}
use Rattle.inspect.specs.Inspection.{IsNotShown}
use Rattle.inspect.specs.WholeGraph.{graph_text}
use Rattle.inspect.proofs.RefusalLemmas.{refuses_all}
use Rattle.inspect.proofs.inspecting.draw.Goals as goal

pub show_graph-requires : goal.show_graph-requires
show_graph-requires g c =
    let image = (g.D.Disk.device c.args.disk.now).now.bytes in
    record { numbers = c.study_law.ensures.numbers image c.in-Ok.study c.in-Ok.ensures.exact }

pub returns-in-Ok : goal.returns-in-Ok
returns-in-Ok g c = record {
  ok = on_ok_weaker c.show_graph.result (λ (w : Appends (g.W.Write.contents c.args.writer.now) (g.W.Write.contents c.show_graph.new.writer) (graph_text c.in-Ok.study)). record { study = c.in-Ok.study; studied = c.in-Ok.ensures.exact; written = w }) c.show_graph.ensures.ok;
  refused = refuses_all graph_text (g.D.Disk.device c.args.disk.now).now.bytes (g.W.Write.contents c.args.writer.now) (g.W.Write.contents c.show_graph.new.writer) c.in-Ok.study c.in-Ok.ensures.exact c.show_graph.result c.show_graph.ensures.refused;
  same = search rules;
  cause = record {
    later = c.in-Ok.ensures.cause.later;
    failed = λ e. absurd (subst (λ (r : Result (Unit {0}) InspectError). IfErr r (IsNotShown (g.W.Write.contents c.args.writer.now) (g.W.Write.contents c.show_graph.new.writer) (graph_text c.in-Ok.study))) e c.show_graph.ensures.refused);
  };
}
