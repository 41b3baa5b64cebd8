use Rattle.std.proofs.Common.{◌≡◌, ◌+◌, ◌++◌, ◌∙◌, ℕ, List, length, take, vec_len, ap, sym, subst, arith, length-take, length-append}
use Rattle.std.proofs.lemmas.Result.{err_from_is_err_and}
use Rattle.heap_model.specs.declared.record.UndoRecord.{UndoRecord}
use Rattle.block_disk.specs.Device.{Moment}
use Rattle.block_disk.proofs.Failures.{moments_trans}
use Rattle.undo_log.specs.Area.{HasRecords, RefusesRead}
use Rattle.undo_log.specs.Runs.{IsFull}
use Rattle.undo_log.proofs.Runs.{refused_later, has_append}
use Rattle.undo_log.proofs.reading.read.Goals as goal

pub returns-in_err-found-clause-exact : goal.returns-in_err-found-clause-exact
returns-in_err-found-clause-exact g c =
    let l = c.args.layout.now in
    let image = (g.D.Disk.device c.args.disk.now).now.bytes in
    let records : List UndoRecord = c.loop-lane.records.items in
    let before = c.loop-lane.invariant in
    let e = c.in_err-found.field-0.0 in
    let p = err_from_is_err_and c.from_residual-in_err-found.result c.from_residual-in_err-found.ensures.1 in
    let long : vec_len c.loop-lane.records ≡ length records = c.loop-lane.records.ok.0 in
    let place : c.args.from + c.len-in-loop-lane.result ≡ c.args.from + length records = omega arith in
    let full : IsFull l c.args.lane.0 c.args.from (c.args.from + length records) image = (records, record { size = omega arith; each = before.read }) in
    let seen = subst (λ (k : ℕ). RefusesRead l c.args.lane k c.args.to (g.D.Disk.device c.loop-lane.disk).now.bytes e) place c.in_err-found.ensures.refused in
    let there = subst (λ (m : Moment). RefusesRead l c.args.lane (c.args.from + length records) c.args.to m.bytes e) before.same.now seen in
    rw (p.1, p.2) (refused_later l c.args.lane c.args.from (c.args.from + length records) c.args.to image e full there)

pub loop-lane-preserved : goal.loop-lane-preserved
loop-lane-preserved g c =
    let l = c.args.layout.now in
    let lane = c.args.lane.0 in
    let d0 = g.D.Disk.device c.args.disk.now in
    let d1 = g.D.Disk.device c.loop-lane.disk in
    let d2 = g.D.Disk.device c.read_run.new.disk in
    let count = c.in_ok-found.found in
    let run : List UndoRecord = c.read_run.new.run in
    let records : List UndoRecord = c.loop-lane.records.items in
    let before = c.loop-lane.invariant in
    let long : length run ≡ 256 = c.read_run.array_long in
    let some = c.in_ok-found.ensures.some in
    let cut : length (take count run) ≡ count = omega (arith, length-take count run, some.1) in
    let items : c.put_behind.new.records.items ≡ records ++ take count run = c.put_behind.ensures.items in
    let len : vec_len c.put_behind.new.records ≡ vec_len c.loop-lane.records + count = c.put_behind.new.records.ok.0 ∙ ap length items ∙ length-append records (take count run) ∙ omega (arith, c.loop-lane.records.ok.0, cut) in
    let place : c.args.from + c.len-in-loop-lane.result ≡ c.args.from + length records = omega (arith, c.loop-lane.records.ok.0, c.len-in-loop-lane.ensures) in
    let there = subst (λ (k : ℕ). HasRecords l lane k d1.now.bytes (take count run)) place c.in_ok-found.ensures.ok in
    let more = subst (λ (m : Moment). HasRecords l lane (c.args.from + length records) m.bytes (take count run)) before.same.now there in
    record {
      within = omega (arith, len, some.2);
      room = omega (arith, before.room, c.put_behind.ensures.capacity);
      read = subst (HasRecords l lane c.args.from d0.now.bytes) (sym items) (has_append l lane c.args.from d0.now.bytes records (take count run) before.read more);
      same = moments_trans d0 d1 d2 before.same c.read_run.ensures.same;
      later = omega (arith, before.later, c.read_run.ensures.cause.later);
    }
