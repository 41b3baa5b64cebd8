use Rattle.std.proofs.Common.{List, ℕ, subst}
use Rattle.host_journal.specs.Taken.{Adds}
use Rattle.host_journal.proofs.taking.keep.Goals as goal

pub returns-in-Ok-clause-kept : goal.returns-in-Ok-clause-kept
returns-in-Ok-clause-kept c = λ done.
    subst (λ (xs : List ℕ). Adds c.args.at xs c.args.parts.now c.keep_piece.new.parts) (c.in-Ok.ensures.items_if_clones_equal (λ x y e. e)) (c.keep_piece.ensures.kept done)
