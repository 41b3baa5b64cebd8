use Rattle.std.proofs.Common.{rules}
use Rattle.inspect.specs.Pieces.{piece_text}
use Rattle.inspect.proofs.PartLemmas.{part_item, always}
use Rattle.inspect.proofs.pieces.put_pieces.Goals as goal

pub returns-in_err-put_piece : goal.returns-in_err-put_piece
returns-in_err-put_piece g c = record {
  ok = search rules;
  part = always c.from_residual.result (part_item piece_text c.args.pieces.now c.loop-piece.piece-index _ c.loop-piece-test.true
      (g.W.Write.contents c.args.writer.now) (g.W.Write.contents c.loop-piece.writer) (g.W.Write.contents c.put_piece.new.writer) c.loop-piece.invariant c.in_err-put_piece.ensures.part);
}
