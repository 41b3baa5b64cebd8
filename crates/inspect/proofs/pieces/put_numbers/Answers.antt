use Rattle.std.proofs.Common.{rules, ℕ, [], ◌∷◌, codes}
use Rattle.std.specs.Fmt.{decimal}
use Rattle.std.specs.List.{concat}
use Rattle.inspect.proofs.PartLemmas.{part_item, always}
use Rattle.inspect.proofs.pieces.put_numbers.Goals as goal

pub returns-in_err-put_pieces : goal.returns-in_err-put_pieces
returns-in_err-put_pieces g c = record {
  ok = search rules;
  part = always c.from_residual.result (part_item (λ (number : ℕ). concat (codes " " ∷ decimal number ∷ [])) c.args.numbers.now c.loop-number.number-index 0 c.loop-number-test.true
      (g.W.Write.contents c.args.writer.now) (g.W.Write.contents c.loop-number.writer) (g.W.Write.contents c.put_pieces.new.writer) c.loop-number.invariant c.in_err-put_pieces.ensures.part);
}
