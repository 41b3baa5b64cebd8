use Rattle.std.proofs.Common.{ℕ, ◌-◌, List, [], ◌∷◌, codes, subst}
use Rattle.std.specs.Fmt.{decimal}
use Rattle.inspect.specs.Written.{Writes}
use Rattle.inspect.specs.Pieces.{line}
use Rattle.inspect.proofs.graph_lines.put_before_edge.Goals as goal

pub returns : goal.returns
returns g c =
    let s = c.args.section in
    subst (λ (text : List ℕ). Writes g.W.Write.contents c.args.writer.now c.put_line.new.writer text c.put_line.result)
    (λ i. line (codes "\"t" ∷ decimal (c.thread_number-thread.ensures i) ∷ codes "." ∷ decimal (s.id.number - 1)
    ∷ codes "\" -> \"t" ∷ decimal (c.thread_number-thread.ensures i) ∷ codes "." ∷ decimal s.id.number ∷ codes "\" [style=dotted, dir=back]" ∷ [])) c.put_line.ensures
