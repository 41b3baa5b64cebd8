use Rattle.std.proofs.Common.{ℕ, ◌≤◌, MatchOption, sym, subst, arith}
use Rattle.trim_helper.specs.Endings.{HasOpen, HoldNone}
use Rattle.trim_helper.proofs.Gathering.{open_later, open_here}
use Rattle.trim_helper.proofs.closing_down.+first_open.Goals as goal

pub returns-then-one-eq0 : goal.returns-then-one-eq0
returns-then-one-eq0 t c =
    subst (λ es. MatchOption c.first_open-later.result (HoldNone es) (λ lane. HasOpen lane.0 es × ((k : ℕ) → HasOpen k es → lane.0 ≤ k))) (sym c.in-Some.ensures.cases.0)
    (open_later c.in-Some.one.now c.in-Some.rest.now c.first_open-later.result c.if-one-eq0.true c.first_open-later.ensures)

pub returns-else-one-eq0 : goal.returns-else-one-eq0
returns-else-one-eq0 t c =
    subst (λ es. HasOpen c.lesser.result.0 es × ((k : ℕ) → HasOpen k es → c.lesser.result.0 ≤ k)) (sym c.in-Some.ensures.cases.0)
    (open_here c.in-Some.one.now c.in-Some.rest.now c.first_open-later.result c.lesser.result (let some = c.if-one-eq0.false in omega arith) c.first_open-later.ensures c.lesser.ensures)
