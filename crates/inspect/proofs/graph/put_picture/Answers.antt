use Rattle.std.proofs.Common.{ℕ, List, ◌∙◌, ap, take, subst, option_map, OnOk, OnErr}
use Rattle.std.specs.Io.KnownBytes.{Appends}
use Rattle.recover.specs.declared.report.Dropped.{Dropped}
use Rattle.inspect.specs.Drawn.{bounds}
use Rattle.inspect.specs.Written.{AppendsPart}
use Rattle.inspect.specs.WholeGraph.{graph_of}
use Rattle.inspect.proofs.graph.put_picture.Goals as goal

pub returns : goal.returns
returns g c =
    let names = option_map (λ x. x.now) c.args.names in
    let s = c.args.study.now in
    let old = g.W.Write.contents c.args.writer.now in
    let new = g.W.Write.contents c.put_graph.new.writer in
    record {
      ok = subst (λ (dropped : List Dropped). OnOk c.put_graph.result (Appends old new (graph_of names (bounds c.args.last s) dropped s))) c.deref.ensures.value
          (subst (λ (firsts : List ℕ). OnOk c.put_graph.result (Appends old new (graph_of names firsts c.deref.result.now s)))
          (ap (λ (n : ℕ). take n c.bounds-firsts.result) c.from.ensures ∙ c.bounds-firsts.ensures) c.put_graph.ensures.ok);
      part = subst (λ (dropped : List Dropped). OnErr c.put_graph.result (AppendsPart old new (graph_of names (bounds c.args.last s) dropped s))) c.deref.ensures.value
          (subst (λ (firsts : List ℕ). OnErr c.put_graph.result (AppendsPart old new (graph_of names firsts c.deref.result.now s)))
          (ap (λ (n : ℕ). take n c.bounds-firsts.result) c.from.ensures ∙ c.bounds-firsts.ensures) c.put_graph.ensures.part);
    }
