use Rattle.std.proofs.Common.{ℕ, ◌≡◌, ap, subst, arith}
use Rattle.std.proofs.lemmas.Result.{IfOk-weaker}
use Rattle.image_parts.specs.declared.layout.Layout.{Layout}
use Rattle.store_image.specs.Formatting.{RefusesFormat}
use Rattle.thread_work.specs.ImageLanes.{lanes_for}
use Rattle.thread_work.specs.Runs.{IsMadeOf, RefusesNew}
use Rattle.thread_work.specs.Stops.{StopsRun}
use Rattle.thread_work.proofs.Refused.{made_new, weaker}
use Rattle.thread_work.proofs.devices.run_new.Goals as goal

pub run_there-requires-clause-theirs : goal.run_there-requires-clause-theirs
run_there-requires-clause-theirs g c κs within =
    let lanes : c.in-Ok.made.layout.lanes ≡ c.lanes_for-lanes.result = ap (λ (l : Layout). l.lanes) c.in-Ok.ensures.made.layout in
    let low = c.lanes_for-lanes.ensures.within in
    let high = c.lanes_for-lanes.ensures.most in
    record {
      lanes = record { some = c.lanes_for-lanes.ensures.some c.in-Ok.ensures.limits.lanes_some; within = omega (arith, lanes, low); most = omega (arith, lanes, high) };
      fits = c.in-Ok.ensures.fits;
    }

pub returns-in-Ok-clause-ok : goal.returns-in-Ok-clause-ok
returns-in-Ok-clause-ok g c =
    let device = g.D.Disk.device in
    let a = c.args in
    let made : IsMadeOf device a.schema (lanes_for a.threads) a.capacity (device a.disk) c.in-Ok.made =
    subst (λ (n : ℕ). IsMadeOf device a.schema n a.capacity (device a.disk) c.in-Ok.made) c.lanes_for-lanes.ensures.lanes c.in-Ok.ensures.made in
    IfOk-weaker c.run_there.result _ _ (λ r so. record { was = c.in-Ok.made; made = made; ran = so }) c.run_there.ensures.ok

pub returns-in-Ok-clause-refused : goal.returns-in-Ok-clause-refused
returns-in-Ok-clause-refused g c =
    let device = g.D.Disk.device in
    let a = c.args in
    let made : IsMadeOf device a.schema (lanes_for a.threads) a.capacity (device a.disk) c.in-Ok.made =
    subst (λ (n : ℕ). IsMadeOf device a.schema n a.capacity (device a.disk) c.in-Ok.made) c.lanes_for-lanes.ensures.lanes c.in-Ok.ensures.made in
    weaker c.run_there.result (λ back. StopsRun (g.W.Work.does c.args.work.now) device a.schema a.threads c.in-Ok.made (device back.0) back.1) (λ back. RefusesNew (g.W.Work.does c.args.work.now) device a.schema a.threads a.capacity (device a.disk) (device back.0) back.1)
    (λ back stops. made_new (g.W.Work.does c.args.work.now) device a.schema a.threads a.capacity (device a.disk) c.in-Ok.made (device back.0) back.1 made c.in-Ok.ensures.failures stops)
    c.run_there.ensures.cause

pub returns-in-Err-clause-refused : goal.returns-in-Err-clause-refused
returns-in-Err-clause-refused g c =
    let device = g.D.Disk.device in
    let a = c.args in
    subst (λ (n : ℕ). RefusesFormat a.schema n a.capacity (device a.disk) (device c.in-Err.disk) c.in-Err.refusal) c.lanes_for-lanes.ensures.lanes c.in-Err.ensures.refused
