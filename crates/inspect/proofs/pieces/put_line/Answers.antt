use Rattle.std.proofs.Common.{codes}
use Rattle.inspect.specs.Pieces.{pieces_text}
use Rattle.inspect.proofs.WritesLemmas.{writes_then}
use Rattle.inspect.proofs.pieces.put_line.Goals as goal

pub returns : goal.returns
returns g c =
    writes_then g.W.Write.contents c.args.writer.now c.put_pieces.new.writer c.put.new.writer (pieces_text c.args.pieces.now) (codes "\n") c.put.result c.in_ok-put_pieces.ensures.ok c.put.ensures
