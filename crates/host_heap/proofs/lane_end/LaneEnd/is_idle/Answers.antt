use Rattle.std.proofs.Common.{inr, sym, ◌∙◌, arith}
use Rattle.std.proofs.lemmas.Bool.{eqb-false, eqb-true}
use Rattle.host_heap.proofs.lane_end.LaneEnd.is_idle.Goals as goal

pub returns-in-Some-clause-idle : goal.returns-in-Some-clause-idle
returns-in-Some-clause-idle c = λ yes. (c.in-Some.session, c.in-Some.is, sym c.holds.ensures ∙ eqb-true c.holds.result 0 yes)

pub returns-in-Some-clause-taken : goal.returns-in-Some-clause-taken
returns-in-Some-clause-taken c = λ no.
    let some = eqb-false c.holds.result 0 no in
    let is = c.holds.ensures in
    inr (c.in-Some.session, c.in-Some.is, omega (arith, some, is))
