use Rattle.std.proofs.Common.{◌≡◌, ◌+◌, ℕ, List, length, subst, ◌∙◌, arith}
use Rattle.heap_model.specs.declared.record.UndoRecord.{UndoRecord}
use Rattle.block_disk.specs.Images.{ImageBut, LeavesOnly}
use Rattle.image_parts.specs.Calls.{after}
use Rattle.undo_log.specs.Area.{HasRecords, record_ranges, record_writes}
use Rattle.undo_log.specs.StandsFor.{row_of}
use Rattle.store_image.specs.NewRecords.{HasFresh}
use Rattle.store_image.proofs.Appending.{next_lane, lane_follows, lane_always}
use Rattle.store_image.proofs.records.append_lanes.Goals as goal

pub returns-in_err-append_lane-clause-any_moment : goal.returns-in_err-append_lane-clause-any_moment
returns-in_err-append_lane-clause-any_moment g c =
    let l = c.args.layout.now in
    let rows = c.args.rows.now in
    let i = c.loop-lane.lane in
    let fresh : ℕ → List UndoRecord = g.F.NewRecords.fresh c.args.fresh.now in
    let d0 = g.D.Disk.device c.args.disk.now in
    let d1 = g.D.Disk.device c.loop-lane.disk in
    let d2 = g.D.Disk.device c.append_lane.new.disk in
    let one : LeavesOnly d1 d2 (ImageBut d1 (record_ranges l i (row_of rows i).logged (length (fresh i)))) =
    subst (λ (k : ℕ). LeavesOnly d1 d2 (ImageBut d1 (record_ranges l i (row_of rows k).logged (length (fresh i))))) c.from.ensures
    (subst (λ (xs : List UndoRecord). LeavesOnly d1 d2 (ImageBut d1 (record_ranges l i (row_of rows c.from.result).logged (length xs)))) c.of.ensures c.append_lane.ensures.any_moment) in
    lane_follows l rows fresh c.requires.limits c.requires.rows c.requires.fits i c.loop-lane-test.true d0 d1 d2 c.requires.room c.loop-lane.invariant.crash one c.loop-lane.invariant.any_moment

pub loop-lane-preserved : goal.loop-lane-preserved
loop-lane-preserved g c =
    let l = c.args.layout.now in
    let rows = c.args.rows.now in
    let i = c.loop-lane.lane in
    let fresh : ℕ → List UndoRecord = g.F.NewRecords.fresh c.args.fresh.now in
    let d0 = g.D.Disk.device c.args.disk.now in
    let d1 = g.D.Disk.device c.loop-lane.disk in
    let d2 = g.D.Disk.device c.append_lane.new.disk in
    let one : LeavesOnly d1 d2 (ImageBut d1 (record_ranges l i (row_of rows i).logged (length (fresh i)))) =
    subst (λ (k : ℕ). LeavesOnly d1 d2 (ImageBut d1 (record_ranges l i (row_of rows k).logged (length (fresh i))))) c.from.ensures
    (subst (λ (xs : List UndoRecord). LeavesOnly d1 d2 (ImageBut d1 (record_ranges l i (row_of rows c.from.result).logged (length xs)))) c.of.ensures c.append_lane.ensures.any_moment) in
    let made : d2 ≡ after (record_writes l i (row_of rows i).logged (fresh i)) d1 =
    c.in_ok-append_lane.ensures.written ∙ (λ j. after (record_writes l i (row_of rows (c.from.ensures j)).logged (c.of.ensures j)) d1) in
    let here : HasRecords l i (row_of rows i).logged d2.now.bytes (fresh i) =
    subst (λ (k : ℕ). HasRecords l i (row_of rows k).logged d2.now.bytes (fresh i)) c.from.ensures
    (subst (λ (xs : List UndoRecord). HasRecords l i (row_of rows c.from.result).logged d2.now.bytes xs) c.of.ensures c.in_ok-append_lane.ensures.ok) in
    let next : HasFresh l rows fresh (i + 1) d0.now.bytes d2.now.bytes =
    next_lane l rows fresh c.requires.limits c.requires.rows c.requires.fits i c.loop-lane-test.true d0 d1 d2 c.requires.room c.loop-lane.invariant.fresh made here in
    record {
      fresh = next;
      size = next.same.size;
      crash = lane_always l rows fresh c.requires.limits c.requires.rows c.requires.fits i c.loop-lane-test.true d0 d1 d2 c.requires.room c.loop-lane.invariant.crash one;
      any_moment = lane_follows l rows fresh c.requires.limits c.requires.rows c.requires.fits i c.loop-lane-test.true d0 d1 d2 c.requires.room c.loop-lane.invariant.crash one c.loop-lane.invariant.any_moment;
      later = omega (arith, c.loop-lane.invariant.later, c.append_lane.ensures.cause.later);
    }
