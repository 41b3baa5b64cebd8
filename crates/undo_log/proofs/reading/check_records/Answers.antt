use Rattle.std.proofs.Common.{◌≡◌, length, take, subst, arith}
use Rattle.std.proofs.lemmas.Result.{err_from_is_err_and}
use Rattle.block_disk.specs.Device.{Moment}
use Rattle.block_disk.proofs.Failures.{moments_trans}
use Rattle.undo_log.specs.Area.{HasRecords, RefusesRead}
use Rattle.undo_log.proofs.Runs.{refused_later, full_more}
use Rattle.undo_log.proofs.reading.check_records.Goals as goal

pub returns-in_err-place-clause-refused : goal.returns-in_err-place-clause-refused
returns-in_err-place-clause-refused g c =
    let l = c.args.layout.now in
    let p = err_from_is_err_and c.from_residual.result c.from_residual.ensures.1 in
    let seen = subst (λ (m : Moment). RefusesRead l c.args.lane c.loop-place.place c.args.to m.bytes c.in_err-place.field-0.0) c.loop-place.invariant.same.now c.in_err-place.ensures.refused in
    rw (p.1, p.2) (refused_later l c.args.lane c.args.from c.loop-place.place c.args.to (g.D.Disk.device c.args.disk.now).now.bytes c.in_err-place.field-0.0 c.loop-place.invariant.full seen)

pub loop-place-preserved : goal.loop-place-preserved
loop-place-preserved g c =
    let l = c.args.layout.now in
    let lane = c.args.lane.0 in
    let d0 = g.D.Disk.device c.args.disk.now in
    let d1 = g.D.Disk.device c.loop-place.disk in
    let d2 = g.D.Disk.device c.read_run.new.disk in
    let place = c.loop-place.place in
    let count = c.in_ok-place.field-0 in
    let run = c.read_run.new.run in
    let some = c.in_ok-place.ensures.some in
    let before = c.loop-place.invariant in
    let there = subst (λ (m : Moment). HasRecords l lane place m.bytes (take count run)) before.same.now c.in_ok-place.ensures.ok in
    let long : length run ≡ 256 = c.read_run.array_long in
    record {
      begun = omega (arith, before.begun);
      within = some.2;
      full = full_more l lane c.args.from place count d0.now.bytes run (omega (arith, some.1, long)) before.full there;
      same = moments_trans d0 d1 d2 before.same c.read_run.ensures.same;
      later = omega (arith, before.later, c.read_run.ensures.cause.later);
    }
