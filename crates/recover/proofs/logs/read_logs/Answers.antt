use Rattle.std.proofs.Common.{◌≡◌, ◌++◌, ◌∙◌, ◌≤◌, ℕ, List, [], ◌∷◌, length, length-append, Vec, Global, ap, sym, subst, inl, inr, arith}
use Rattle.std.proofs.lemmas.Result.{err_from_is_err_and}
use Rattle.std.proofs.lemmas.Bool.{cases_eq}
use Rattle.heap_model.specs.declared.record.UndoRecord.{UndoRecord}
use Rattle.block_disk.specs.Device.{Moment}
use Rattle.image_parts.specs.Rows.{empty_row}
use Rattle.image_parts.specs.declared.lane_row.LaneRow.{LaneRow}
use Rattle.block_disk.proofs.Failures.{moments_trans}
use Rattle.undo_log.specs.Area.{HasSpan}
use Rattle.undo_log.specs.StandsFor.{row_of}
use Rattle.recover_heap.specs.Logs.{records_of, RefusesLane}
use Rattle.recover_logs.proofs.LaneLemmas.{records_before, records_new}
use Rattle.recover.proofs.LogLemmas.{logs_are, row_is, refused_lane}
use Rattle.recover.proofs.logs.read_logs.Goals as goal

pub read_lane-requires-clause-row : goal.read_lane-requires-clause-row
read_lane-requires-clause-row g c =
    let le : c.args.layout.now.lanes ≤ 32 = omega (arith, c.requires.limits.lanes) in
    row_is c.args.layout.now c.args.rows.now c.from-in-loop-lane.result empty_row c.requires.rows le (omega (arith, c.from-in-loop-lane.ensures, c.loop-lane-test.true))

pub returns-in_err-records-clause-exact : goal.returns-in_err-records-clause-exact
returns-in_err-records-clause-exact g c =
    let l = c.args.layout.now in
    let rows : List LaneRow = c.args.rows.now in
    let before = c.loop-lane.invariant in
    let image = (g.D.Disk.device c.args.disk.now).now.bytes in
    let e = c.in_err-records.field-0.0 in
    let p = err_from_is_err_and c.from_residual.result c.from_residual.ensures.1 in
    let seen = c.in_err-records.ensures.exact in
    let there = subst (λ (m : Moment). RefusesLane l m.bytes (record { 0 = c.loop-lane.lane }) (row_of rows c.from-in-loop-lane.result) e) before.same.now seen in
    rw (p.1, p.2) (refused_lane l image rows (record { 0 = c.loop-lane.lane }) (row_of rows c.from-in-loop-lane.result) e (ap (row_of rows) c.from-in-loop-lane.ensures) c.loop-lane-test.true
    (λ m lt. (records_of c.loop-lane.logs.items m, before.read m lt)) there)

pub loop-lane-preserved : goal.loop-lane-preserved
loop-lane-preserved g c =
    let l = c.args.layout.now in
    let rows : List LaneRow = c.args.rows.now in
    let d0 = g.D.Disk.device c.args.disk.now in
    let d1 = g.D.Disk.device c.loop-lane.disk in
    let d2 = g.D.Disk.device c.read_lane.new.disk in
    let before = c.loop-lane.invariant in
    let lane = c.loop-lane.lane in
    let logs : List (Vec UndoRecord Global) = c.loop-lane.logs.items in
    let v : Vec UndoRecord Global = c.in_ok-records.records in
    let items : c.push_reserved.new.self.items ≡ logs ++ v ∷ [] = c.push_reserved.ensures.items in
    let seen = c.in_ok-records.ensures.exact in
    let there = subst (λ (m : Moment). HasSpan l lane (row_of rows c.from-in-loop-lane.result).start (row_of rows c.from-in-loop-lane.result).logged m.bytes v.items) before.same.now seen in
    let here = subst (λ (k : ℕ). HasSpan l lane (row_of rows k).start (row_of rows k).logged d0.now.bytes v.items) c.from-in-loop-lane.ensures there in
    record {
      count = ap length items ∙ length-append logs (v ∷ []) ∙ omega (arith, before.count);
      within = omega (arith, c.loop-lane-test.true);
      room = omega (arith, before.room, c.push_reserved.ensures.capacity);
      read = λ m lt. subst (λ (xs : List (Vec UndoRecord Global)). HasSpan l m (row_of rows m).start (row_of rows m).logged d0.now.bytes (records_of xs m)) (sym items)
          (elim (cases_eq m lane) [
            | inl e ↦ subst (λ (k : ℕ). HasSpan l k (row_of rows k).start (row_of rows k).logged d0.now.bytes (records_of (logs ++ v ∷ []) k)) (sym e)
                (subst (λ (xs : List UndoRecord). HasSpan l lane (row_of rows lane).start (row_of rows lane).logged d0.now.bytes xs) (sym (records_new logs v lane before.count)) here)
            | inr ne ↦ subst (λ (xs : List UndoRecord). HasSpan l m (row_of rows m).start (row_of rows m).logged d0.now.bytes xs) (sym (records_before logs v m (omega (arith, before.count)))) (before.read m (omega arith))
          ]);
      same = moments_trans d0 d1 d2 before.same c.read_lane.ensures.same;
      later = omega (arith, before.later, c.read_lane.ensures.cause.later);
    }

pub returns-clause-exact : goal.returns-clause-exact
returns-clause-exact g c =
    let before = c.loop-lane.invariant in
    let whole : c.loop-lane.lane ≡ c.args.layout.now.lanes = omega (arith, before.within, c.loop-lane-test.false) in
    logs_are c.args.layout.now (g.D.Disk.device c.args.disk.now).now.bytes c.args.rows.now c.loop-lane.logs.items (before.count ∙ whole) (λ m lt. before.read m (omega arith))
