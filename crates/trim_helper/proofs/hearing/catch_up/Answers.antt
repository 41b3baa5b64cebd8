use Rattle.std.proofs.Common.{ℕ, [], refl, ◌∙◌, subst, arith}
use Rattle.trim_helper.specs.Seen.{AreHeard}
use Rattle.trim_helper.proofs.HeardRings.{goes_back, kept_refl, kept_then}
use Rattle.trim_helper.proofs.Noting.{noted_same, noted_then, noted_view}
use Rattle.trim_helper.proofs.Seeing.{sees_later}
use Rattle.trim_helper.proofs.hearing.catch_up.Goals as goal

pub loop-lane-init : goal.loop-lane-init
loop-lane-init c = record { seat = c.requires.seat; noted = noted_same _ _ refl; goes_on = ([], refl); sees = c.requires.sees; heard = tt; records = kept_refl c.args.rings.now }

pub loop-lane-preserved : goal.loop-lane-preserved
loop-lane-preserved c = let was = c.loop-lane.invariant in let e = c.hear_at.ensures in record {
  seat = e.seat;
  noted = noted_then _ _ _ was.noted e.noted;
  goes_on = goes_back _ _ _ e.goes_on was.goes_on;
  sees = e.sees;
  heard = e.heard;
  records = kept_then _ _ _ was.records e.records;
}

pub returns-clause-seat : goal.returns-clause-seat
returns-clause-seat c = let was = c.loop-lane.invariant.seat in record { of = c.catch_up.ensures.helper.0; all = c.catch_up.ensures.helper.1 ∙ was.all; few = was.few }

pub returns-clause-noted : goal.returns-clause-noted
returns-clause-noted c = let was = c.loop-lane.invariant in noted_then _ _ _ was.noted (noted_view c.args.shared.now _ _ c.catch_up.new.helper.view.history was.seat.of c.catch_up.ensures.helper.0 c.catch_up.ensures.seen)

pub returns-clause-goes_on : goal.returns-clause-goes_on
returns-clause-goes_on c = goes_back _ _ _ c.catch_up.ensures.goes_on c.loop-lane.invariant.goes_on

pub returns-clause-sees : goal.returns-clause-sees
returns-clause-sees c = let was = c.loop-lane.invariant in let n = noted_view c.args.shared.now c.loop-lane.seat c.catch_up.new.helper c.catch_up.new.helper.view.history was.seat.of c.catch_up.ensures.helper.0 c.catch_up.ensures.seen in
    sees_later c.sent_law.ensures c.loop-lane.seat c.catch_up.new.helper n.table n.plan c.catch_up.ensures.goes_on 0 c.loop-lane.rings was.sees

pub returns-clause-heard : goal.returns-clause-heard
returns-clause-heard c = subst (λ (n : ℕ). AreHeard n c.loop-lane.rings) (omega (arith, c.loop-lane-test.false)) c.loop-lane.invariant.heard

pub returns-clause-records : goal.returns-clause-records
returns-clause-records c = c.loop-lane.invariant.records
