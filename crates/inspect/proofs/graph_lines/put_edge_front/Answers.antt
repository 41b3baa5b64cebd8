use Rattle.std.proofs.Common.{ℕ, List, [], ◌∷◌, codes, subst, OnOk, OnErr}
use Rattle.std.specs.Fmt.{decimal}
use Rattle.std.specs.List.{concat}
use Rattle.std.specs.Io.KnownBytes.{Appends}
use Rattle.inspect.specs.Written.{AppendsPart}
use Rattle.inspect.proofs.graph_lines.put_edge_front.Goals as goal

pub returns : goal.returns
returns g c =
    let k = c.args.link in
    record {
      ok = subst (λ (text : List ℕ). OnOk c.put_pieces.result (Appends (g.W.Write.contents c.args.writer.now) (g.W.Write.contents c.put_pieces.new.writer) text))
          (λ i. concat (codes "\"t" ∷ decimal (c.thread_number-taker.ensures i) ∷ codes "." ∷ decimal k.taker.number
          ∷ codes "\" -> \"t" ∷ decimal (c.thread_number-releaser.ensures i) ∷ codes "." ∷ decimal k.releaser.number ∷ codes "\" [label=\"" ∷ []))
          c.put_pieces.ensures.ok;
      part = subst (λ (text : List ℕ). OnErr c.put_pieces.result (AppendsPart (g.W.Write.contents c.args.writer.now) (g.W.Write.contents c.put_pieces.new.writer) text))
          (λ i. concat (codes "\"t" ∷ decimal (c.thread_number-taker.ensures i) ∷ codes "." ∷ decimal k.taker.number
          ∷ codes "\" -> \"t" ∷ decimal (c.thread_number-releaser.ensures i) ∷ codes "." ∷ decimal k.releaser.number ∷ codes "\" [label=\"" ∷ []))
          c.put_pieces.ensures.part;
    }
