use Rattle.std.proofs.Common.{◌+◌, ◌++◌, ◌∷◌, [], List, ◌∙◌, ap, refl}
use Rattle.host_journal.specs.declared.piece.Piece.{Piece}
use Rattle.host_journal.proofs.taking.keep_piece.Goals as goal

pub returns-in-Ok-clause-kept : goal.returns-in-Ok-clause-kept
returns-in-Ok-clause-kept c = λ done. record {
  piece = c.args.piece;
  place = refl;
  bytes_are = refl;
  group = c.push_reserved.ensures.items ∙ ap (λ (ps : List Piece). ps ++ c.args.piece ∷ []) c.reserve.ensures.items;
  disk = refl;
  moved = refl;
  taken = refl;
  words = ap (λ n. c.args.parts.now.words + n) c.requires.words;
  turns = refl;
}
