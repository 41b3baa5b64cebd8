use Rattle.std.proofs.Common.{refl, arith}
use Rattle.trim_helper.specs.Taken.{with_rings}
use Rattle.trim_helper.proofs.Advancing.{advances_by_one, advances_start, gone_by_one, runs_done, runs_failed, runs_full}
use Rattle.trim_helper.proofs.draining.apply_lane.Goals as goal

pub records-init : goal.records-init
records-init g c = record { advances = advances_start g.D.Disk.device _; within = omega arith; gone = omega arith; still = λ none. refl }

pub returns-in-Err : goal.returns-in-Err
returns-in-Err g c = runs_failed g.D.Disk.device _ _ _ c.args.lane _ _ c.in-Err.reason c.records.invariant.advances c.in-Err.ensures

pub returns-then-not-gone : goal.returns-then-not-gone
returns-then-not-gone g c = runs_done g.D.Disk.device _ _ _ c.args.lane _ _ c.in-Ok.gone c.if-not-gone.true (omega (arith, c.records-test.true)) c.records.invariant.advances c.records.invariant.gone c.records.invariant.still c.in-Ok.ensures

pub records-preserved : goal.records-preserved
records-preserved g c = record {
  advances = advances_by_one g.D.Disk.device _ _ _ c.args.lane _ c.in-Ok.gone c.if-not-gone.false c.records.invariant.advances c.in-Ok.ensures;
  within = omega (arith, c.records-test.true);
  gone = gone_by_one g.D.Disk.device (with_rings c.args.store.now c.args.rings.now c.args.waiting.now) _ _ c.args.lane _ c.in-Ok.gone c.if-not-gone.false c.records.invariant.gone c.in-Ok.ensures;
  still = λ none. absurd (omega arith);
}

pub returns : goal.returns
returns g c = runs_full g.D.Disk.device _ _ c.args.lane _ _ (omega (arith, c.records-test.false, c.records.invariant.within)) c.records.invariant.advances c.records.invariant.gone
