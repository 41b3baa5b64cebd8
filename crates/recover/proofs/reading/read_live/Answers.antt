use Rattle.std.proofs.Common.{List, sym, subst, Vec, Global}
use Rattle.std.proofs.lemmas.Result.{err_from_is_err_and}
use Rattle.heap_model.specs.declared.record.UndoRecord.{UndoRecord}
use Rattle.image_parts.specs.declared.guard_row.GuardRow.{GuardRow}
use Rattle.recover_heap.specs.Logs.{lanes_of, AreLoggable, logged_guard_in}
use Rattle.recover.specs.Settled.{RefusesLegal}
use Rattle.recover.proofs.ReadingLemmas.{refused_logs, refused_legal, logs_loggable}
use Rattle.recover.proofs.reading.read_live.Goals as goal

pub returns-in_err-records-clause-exact : goal.returns-in_err-records-clause-exact
returns-in_err-records-clause-exact g c =
    let e = c.in_err-records.field-0.0 in
    let p = err_from_is_err_and c.from_residual.result c.from_residual.ensures.1 in
    rw (p.1, p.2) (refused_logs (g.D.Disk.device c.args.disk.now).now.bytes c.args.front.layout c.args.front.guards.items c.args.front.control e c.in_err-records.ensures.exact)

pub check_logs-requires-clause-logs : goal.check_logs-requires-clause-logs
check_logs-requires-clause-logs g c =
    subst (λ (logs : List (Vec UndoRecord Global)). AreLoggable c.args.front.layout c.args.front.control.rows logs) (sym c.deref-2.ensures.value)
    (logs_loggable c.args.front.layout (g.D.Disk.device c.args.disk.now).now.bytes c.args.front.control.rows c.in_ok-records.records.items c.in_ok-records.ensures.exact)

pub returns-in_err-steps-clause-exact : goal.returns-in_err-steps-clause-exact
returns-in_err-steps-clause-exact g c =
    let rows = c.args.front.control.rows in
    let guards : List GuardRow = c.args.front.guards.items in
    let logs : List (Vec UndoRecord Global) = c.in_ok-records.records.items in
    let e = c.in_err-steps.field-0.0 in
    let p = err_from_is_err_and c.from_residual-in_err-steps.result c.from_residual-in_err-steps.ensures.1 in
    let first = subst (λ (xs : List GuardRow). RefusesLegal (logged_guard_in xs) rows (lanes_of c.deref-2.result.now) e) c.deref.ensures.value c.in_err-steps.ensures.exact in
    let refused = subst (λ (xs : List (Vec UndoRecord Global)). RefusesLegal (logged_guard_in guards) rows (lanes_of xs) e) c.deref-2.ensures.value first in
    rw (p.1, p.2) (refused_legal (g.D.Disk.device c.args.disk.now).now.bytes c.args.front.layout guards c.args.front.control logs e c.in_ok-records.ensures.exact refused)
