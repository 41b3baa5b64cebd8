use Rattle.std.proofs.Common.{rules, ℕ, ◌≡◌, ◌+◌, ◌==◌, Bool, false, List, [], ◌∷◌, codes, sym, subst, if◌then◌else◌}
use Rattle.std.specs.Fmt.{decimal}
use Rattle.inspect.specs.Written.{Writes}
use Rattle.inspect.specs.Pieces.{line}
use Rattle.inspect.proofs.graph.put_column_edge.Goals as goal

pub returns : goal.returns
returns g c =
    let l = c.args.lane.0 in
    let edge = λ (before thread : ℕ). line (codes "\"t" ∷ decimal before ∷ codes "\" -> \"t" ∷ decimal thread ∷ codes "\" [style=invis]" ∷ []) in
    let later : (l == 0) ≡ false = search rules in
    subst (λ (first : Bool). Writes g.W.Write.contents c.args.writer.now c.put_line.new.writer (if first then [] else edge l (l + 1)) c.put_line.result) (sym later)
    (subst (λ (text : List ℕ). Writes g.W.Write.contents c.args.writer.now c.put_line.new.writer text c.put_line.result) (λ i. edge (c.from.ensures i) (c.thread_number.ensures i)) c.put_line.ensures)
