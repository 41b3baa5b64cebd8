use Rattle.std.proofs.Common.{◌≡◌, ◌+◌, ◌∷◌, drop, length, rules, sym, ◌∙◌, ap, refl, arith}
use Rattle.std.proofs.lemmas.List.{drop_more}
use Rattle.host_journal.specs.Gathered.{words_in}
use Rattle.host_journal.specs.declared.piece.Piece.{Piece}
use Rattle.host_journal.proofs.taking.take_one.Goals as goal

pub returns-clause-taken : goal.returns-clause-taken
returns-clause-taken c = λ done.
    let g = c.args.parts.now in
    let p = c.index-piece.result.now in
    let next = c.requires.next in
    let count : c.words_in.result ≡ words_in (length p.bytes.items) = search rules in
    record {
      piece = p;
      more = drop (g.moved + 1) g.group.items;
      before = drop_more g.group.items g.moved p next ∙ ap (λ (q : Piece). q ∷ drop (g.moved + 1) g.group.items) (sym c.index-piece.ensures);
      after = refl;
      moved = omega (arith, next);
      write = c.if-not-write_piece.ensures.taken refl;
      taken = ap (λ n. g.taken + n) count;
      words = refl;
      turns = refl;
    }
