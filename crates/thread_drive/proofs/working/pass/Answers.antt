use Rattle.std.proofs.Common.{ℕ, ◌+◌, [], ◌∷◌, refl, sym, subst}
use Rattle.session.specs.Sessions.{view_of}
use Rattle.thread_drive.specs.Working.{HoldsJust}
use Rattle.thread_drive.proofs.Holding.{free}
use Rattle.thread_drive.proofs.working.pass.Goals as goal

pub returns-clause-free : goal.returns-clause-free
returns-clause-free g c =
    let seen = view_of c.leave.new.thread in
    let held = subst (λ (n : ℕ). HoldsJust (view_of c.count_both-counted.new.thread) ((n + 1) ∷ []) 5) (sym c.from.ensures) c.count_both-counted.ensures.held in
    free seen.plan seen.events 6 (c.leave.ensures.held [] 5 refl held)
