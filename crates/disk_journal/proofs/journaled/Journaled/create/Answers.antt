use Rattle.std.proofs.Common.{inl, inr, refl, arith}
use Rattle.disk_journal.proofs.journaled.Journaled.create.Goals as goal

pub returns-clause-too_small : goal.returns-clause-too_small
returns-clause-too_small g c =
    let fits = c.if-not-has_room.ensures.0 refl in
    (λ none. absurd none, λ lacks. elim lacks [ inl short ↦ omega (arith, fits.0, short, c.size.ensures) | inr none ↦ omega (arith, fits.1, none) ])
