use Rattle.std.proofs.Common.{ℕ, ◌==◌, length, ap, sym, subst, ◌∙◌}
use Rattle.std.proofs.lemmas.Bool.{eqb-true}
use Rattle.store_image.proofs.Stands.{empty}
use Rattle.durable.proofs.Ending.{logged_told, unlogged_told}
use Rattle.store_rounds.specs.Steps.{IsPastOf}
use Rattle.store_rounds.specs.Turns.{IsIdle}
use Rattle.store_rounds.proofs.store.RoundStore.is_idle.Goals as goal

pub returns-then-not-is_empty-clause-work : goal.returns-then-not-is_empty-clause-work
returns-then-not-is_empty-clause-work g c = λ is s p was none home.
    let here = subst (λ z. IsPastOf g.D.Disk.device z s p) (sym c.self.view_is) was in
    unlogged_told p c.fresh.result.now (c.fresh.ensures.records s p here.remembers) (sym c.is_empty.ensures ∙ c.if-not-is_empty.true) none

pub returns-clause-idle : goal.returns-clause-idle
returns-clause-idle g c = λ is.
    let was = c.self.invariant.1 in
    let none = logged_told was.1 c.fresh.result.now (c.fresh.ensures.records was.0 was.1 was.2.remembers) (sym c.is_empty.ensures ∙ c.if-not-is_empty.false) in
    subst (λ z. IsIdle z.known) c.self.view_is (was.2.remembers.fresh ∙ none, empty c.self.inside.pending.items (eqb-true (length c.self.inside.pending.items) 0 (ap (λ (n : ℕ). n == 0) (sym c.self.inside.pending.ok.0) ∙ sym c.is_empty-2.ensures ∙ is)))
