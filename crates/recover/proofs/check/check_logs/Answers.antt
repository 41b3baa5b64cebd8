use Rattle.std.proofs.Common.{ℕ, ◌≡◌, ◌+◌, ◌<◌, ◌∙◌, List, get_or, sym, ap, subst, arith, Option}
use Rattle.heap_model.specs.declared.ids.ObjectId.{ObjectId}
use Rattle.heap_model.specs.declared.record.UndoRecord.{UndoRecord}
use Rattle.image_parts.specs.Rows.{IsRow, empty_row}
use Rattle.image_parts.specs.declared.lane_row.LaneRow.{LaneRow}
use Rattle.undo_log.specs.StandsFor.{row_of, settled_of}
use Rattle.recover_logs.specs.Limits.{IsOfObjects}
use Rattle.recover_logs.specs.Logs as numbers
use Rattle.recover_logs.specs.Replay.{Replays}
use Rattle.recover_logs.specs.Settled as logs
use Rattle.recover_logs.specs.Tables.{log_of}
use Rattle.recover_logs.specs.declared.settled_count.SettledCount.{SettledCount}
use Rattle.recover_heap.specs.Logs.{lanes_of, logged_guard_in, records_of}
use Rattle.recover.specs.Settled.{IsIllegalAt, kept_of}
use Rattle.recover_heap.proofs.HomeLemmas.{named_low}
use Rattle.recover.proofs.LegalLemmas.{illegal_at}
use Rattle.recover.proofs.LogLemmas.{row_is}
use Rattle.recover.proofs.check.check_logs.Goals as goal

-- the guards as they were passed on
guards_are : (objects among : List (Option ObjectId)) (guard : ℕ → Option ObjectId) → among ≡ objects → ((f : ℕ) → numbers.guard_in objects f ≡ guard f) → numbers.guard_in among ≡ guard
guards_are objects among guard same each = ap numbers.guard_in same ∙ (λ i f. each f i)

-- the counts as they were passed on
settled_are : (counts : List SettledCount) (rows : List LaneRow) → ((l : ℕ) → numbers.count_of counts l ≡ record { records = settled_of rows l; sections = kept_of rows l }) → numbers.settled_of counts ≡ settled_of rows
settled_are counts rows each = (λ i l. ap (λ (c : SettledCount). c.records) (each l) i)

kept_are : (counts : List SettledCount) (rows : List LaneRow) → ((l : ℕ) → numbers.count_of counts l ≡ record { records = settled_of rows l; sections = kept_of rows l }) → numbers.kept_of counts ≡ kept_of rows
kept_are counts rows each = (λ i l. ap (λ (c : SettledCount). c.sections) (each l) i)

pub check_logs-requires-clause-objects : goal.check_logs-requires-clause-objects
check_logs-requires-clause-objects c = λ l k d lt.
    let guard : ℕ → Option ObjectId = logged_guard_in c.args.guards.now in
    subst (λ (g : ℕ → Option ObjectId). IsOfObjects g 4096 (get_or (records_of c.args.logs.now l) k d)) (sym (guards_are c.in_ok-objects.objects.items c.deref.result.now guard c.deref.ensures.value c.in_ok-objects.ensures.ok))
    (named_low c.args.layout.now c.args.guards.now (get_or (records_of c.args.logs.now l) k d) c.requires.limits c.requires.guards (c.requires.logs.each l k d lt))

pub check_logs-requires-clause-within : goal.check_logs-requires-clause-within
check_logs-requires-clause-within c = λ l lt.
    let rows : List LaneRow = c.args.rows.now in
    let counts : List SettledCount = c.settled_counts.result in
    let low : l < c.args.layout.now.lanes = omega (arith, lt, c.requires.logs.count) in
    let row : IsRow c.args.layout.now.capacity (row_of rows l) = row_is c.args.layout.now rows l empty_row c.requires.rows (omega (arith, c.requires.limits.lanes)) low in
    let same : numbers.settled_of counts l ≡ settled_of rows l = ap (λ (s : ℕ → ℕ). s l) (settled_are counts rows c.settled_counts.ensures) in
    omega (arith, same, row.settled, row.logged, c.requires.logs.size l low)

pub returns-in-Ok-clause-exact : goal.returns-in-Ok-clause-exact
returns-in-Ok-clause-exact c =
    let rows : List LaneRow = c.args.rows.now in
    let lanes : ℕ → List UndoRecord = lanes_of c.args.logs.now in
    let counts : List SettledCount = c.settled_counts.result in
    let guard : ℕ → Option ObjectId = logged_guard_in c.args.guards.now in
    let one = subst (λ (g : ℕ → Option ObjectId). logs.AreLegal g (numbers.settled_of counts) (numbers.kept_of counts) lanes) (guards_are c.in_ok-objects.objects.items c.deref.result.now guard c.deref.ensures.value c.in_ok-objects.ensures.ok) c.in-Ok.ensures.exact in
    let two = subst (λ (s : ℕ → ℕ). logs.AreLegal guard s (numbers.kept_of counts) lanes) (settled_are counts rows c.settled_counts.ensures) one in
    subst (λ (k : ℕ → ℕ). logs.AreLegal guard (settled_of rows) k lanes) (kept_are counts rows c.settled_counts.ensures) two

pub returns-in-Ok-clause-replays : goal.returns-in-Ok-clause-replays
returns-in-Ok-clause-replays c =
    subst (λ (g : ℕ → Option ObjectId). Replays g (lanes_of c.args.logs.now) (log_of c.in-Ok.steps.items))
    (guards_are c.in_ok-objects.objects.items c.deref.result.now (logged_guard_in c.args.guards.now) c.deref.ensures.value c.in_ok-objects.ensures.ok) c.in-Ok.ensures.replays

pub overflow_add-result : goal.overflow_add-result
overflow_add-result c =
    let rows : List LaneRow = c.args.rows.now in
    let l = c.in-Err-IllegalLog.lane.0 in
    let there = subst (logs.IsPlaceIn c.args.logs.now) c.in-Err-IllegalLog.field-0-is c.in-Err-IllegalLog.ensures.there in
    let low : l < c.args.layout.now.lanes = omega (arith, there.0, c.requires.logs.count) in
    let row : IsRow c.args.layout.now.capacity (row_of rows l) = row_is c.args.layout.now rows l empty_row c.requires.rows (omega (arith, c.requires.limits.lanes)) low in
    let start : (row_of rows c.from.result).start ≡ (row_of rows l).start = ap (λ (k : ℕ). (row_of rows k).start) c.from.ensures in
    omega (arith, start, there.1, c.requires.logs.size l low, row.limit)

pub returns-in-Err-IllegalLog-clause-exact : goal.returns-in-Err-IllegalLog-clause-exact
returns-in-Err-IllegalLog-clause-exact c =
    let rows : List LaneRow = c.args.rows.now in
    let lanes : ℕ → List UndoRecord = lanes_of c.args.logs.now in
    let counts : List SettledCount = c.settled_counts.result in
    let guard : ℕ → Option ObjectId = logged_guard_in c.args.guards.now in
    let l = c.in-Err-IllegalLog.lane.0 in
    let place = c.in-Err-IllegalLog.place in
    let there = subst (logs.IsPlaceIn c.args.logs.now) c.in-Err-IllegalLog.field-0-is c.in-Err-IllegalLog.ensures.there in
    let low : l < c.args.layout.now.lanes = omega (arith, there.0, c.requires.logs.count) in
    let row : IsRow c.args.layout.now.capacity (row_of rows l) = row_is c.args.layout.now rows l empty_row c.requires.rows (omega (arith, c.requires.limits.lanes)) low in
    let one = subst (λ (g : ℕ → Option ObjectId). logs.IsIllegalAt g (numbers.settled_of counts) (numbers.kept_of counts) lanes l place) (guards_are c.in_ok-objects.objects.items c.deref.result.now guard c.deref.ensures.value c.in_ok-objects.ensures.ok)
    (subst (logs.RefusesLegal (numbers.guard_in c.deref.result.now) (numbers.settled_of counts) (numbers.kept_of counts) lanes) c.in-Err-IllegalLog.field-0-is c.in-Err-IllegalLog.ensures.exact) in
    let two = subst (λ (s : ℕ → ℕ). logs.IsIllegalAt guard s (numbers.kept_of counts) lanes l place) (settled_are counts rows c.settled_counts.ensures) one in
    let three = subst (λ (k : ℕ → ℕ). logs.IsIllegalAt guard (settled_of rows) k lanes l place) (kept_are counts rows c.settled_counts.ensures) two in
    let at = illegal_at guard rows lanes l place row.settled three in
    subst (λ (k : ℕ). IsIllegalAt guard rows lanes l ((row_of rows k).start + place)) (sym c.from.ensures) at
