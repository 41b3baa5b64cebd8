use Rattle.std.proofs.Common.{ℕ, List, [], ◌∷◌, codes, subst, OnOk, OnErr}
use Rattle.std.specs.Fmt.{decimal}
use Rattle.std.specs.Io.KnownBytes.{Appends}
use Rattle.inspect.specs.Written.{AppendsPart}
use Rattle.inspect.specs.Pieces.{line}
use Rattle.inspect.proofs.study_lines.put_image.Goals as goal

pub returns : goal.returns
returns g c = record {
  ok = subst (λ (text : List ℕ). OnOk c.put_line.result (Appends (g.W.Write.contents c.args.writer.now) (g.W.Write.contents c.put_line.new.writer) text))
      (λ i. line (codes "image lanes " ∷ decimal (c.from.ensures i) ∷ codes " capacity " ∷ decimal (c.from-2.ensures i) ∷ codes " objects " ∷ decimal (c.from-3.ensures i)
      ∷ codes " fields " ∷ decimal (c.from-4.ensures i) ∷ codes " size " ∷ decimal (c.size.ensures i) ∷ []))
      c.put_line.ensures.ok;
  part = subst (λ (text : List ℕ). OnErr c.put_line.result (AppendsPart (g.W.Write.contents c.args.writer.now) (g.W.Write.contents c.put_line.new.writer) text))
      (λ i. line (codes "image lanes " ∷ decimal (c.from.ensures i) ∷ codes " capacity " ∷ decimal (c.from-2.ensures i) ∷ codes " objects " ∷ decimal (c.from-3.ensures i)
      ∷ codes " fields " ∷ decimal (c.from-4.ensures i) ∷ codes " size " ∷ decimal (c.size.ensures i) ∷ []))
      c.put_line.ensures.part;
}
