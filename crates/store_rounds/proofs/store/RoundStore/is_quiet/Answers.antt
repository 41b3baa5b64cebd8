use Rattle.std.proofs.Common.{◌≡◌, true, false, sym, subst, ◌∙◌}
use Rattle.heap_model.specs.Past.{applied}
use Rattle.durable.proofs.Ending.{logged_told, unlogged_told}
use Rattle.store_rounds.specs.Steps.{IsPastOf}
use Rattle.store_rounds.proofs.Turned.{acknowledged_is, is_acknowledged}
use Rattle.store_rounds.proofs.store.RoundStore.is_quiet.Goals as goal

pub returns-then-not-is_empty-clause-busy : goal.returns-then-not-is_empty-clause-busy
returns-then-not-is_empty-clause-busy g c = λ is s p was none stable.
    let here = subst (λ z. IsPastOf g.D.Disk.device z s p) (sym c.self.view_is) was in
    unlogged_told p c.fresh.result.now (c.fresh.ensures.records s p here.remembers) (sym c.is_empty.ensures ∙ c.if-not-is_empty.true) none

pub returns-clause-quiet : goal.returns-clause-quiet
returns-clause-quiet g c = λ is s p was.
    let here = subst (λ z. IsPastOf g.D.Disk.device z s p) (sym c.self.view_is) was in
    let stable = c.requires p.cut (applied p) was.sections in
    (logged_told p c.fresh.result.now (c.fresh.ensures.records s p here.remembers) (sym c.is_empty.ensures ∙ c.if-not-is_empty.false), acknowledged_is _ s p _ here c.args.stable.now stable (c.is_acknowledged.ensures.0 is))

pub returns-clause-busy : goal.returns-clause-busy
returns-clause-busy g c = λ is s p was none stable.
    let here = subst (λ z. IsPastOf g.D.Disk.device z s p) (sym c.self.view_is) was in
    let known = c.requires p.cut (applied p) was.sections in
    let yes = c.is_acknowledged.ensures.1 (is_acknowledged _ s p _ here c.args.stable.now known stable) in
    absurd (let no : true ≡ false = sym yes ∙ is in cc)
