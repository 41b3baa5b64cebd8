use Rattle.std.proofs.Common.{List, ℕ, [], ◌∷◌, codes, subst, OnOk, OnErr}
use Rattle.std.specs.Fmt.{decimal}
use Rattle.std.specs.Io.KnownBytes.{Appends}
use Rattle.inspect.specs.Written.{AppendsPart}
use Rattle.inspect.specs.Pieces.{line}
use Rattle.inspect.proofs.graph.put_cut_head.Goals as goal

pub returns : goal.returns
returns g c = record {
  ok = subst (λ (text : List ℕ). OnOk c.put_line.result (Appends (g.W.Write.contents c.args.writer.now) (g.W.Write.contents c.put_line.new.writer) text))
      (λ i. line (codes "subgraph t" ∷ decimal (c.thread_number-thread.ensures i) ∷ codes " {\nrank=same\n\"t" ∷ decimal (c.thread_number-thread.ensures i) ∷ codes "\" [shape=plaintext, label=\"t" ∷ decimal (c.thread_number-thread.ensures i) ∷ codes "\\nleft out here: " ∷ decimal c.args.left_out ∷ codes " before these\"]" ∷ []))
      c.put_line.ensures.ok;
  part = subst (λ (text : List ℕ). OnErr c.put_line.result (AppendsPart (g.W.Write.contents c.args.writer.now) (g.W.Write.contents c.put_line.new.writer) text))
      (λ i. line (codes "subgraph t" ∷ decimal (c.thread_number-thread.ensures i) ∷ codes " {\nrank=same\n\"t" ∷ decimal (c.thread_number-thread.ensures i) ∷ codes "\" [shape=plaintext, label=\"t" ∷ decimal (c.thread_number-thread.ensures i) ∷ codes "\\nleft out here: " ∷ decimal c.args.left_out ∷ codes " before these\"]" ∷ []))
      c.put_line.ensures.part;
}
