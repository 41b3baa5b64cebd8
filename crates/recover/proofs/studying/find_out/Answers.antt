use Rattle.std.proofs.Common.{◌≤◌, subst, arith}
use Rattle.std.proofs.lemmas.Result.{err_from_is_err_and}
use Rattle.block_disk.specs.Device.{Moment}
use Rattle.undo_log.specs.StandsFor.{StandsFor}
use Rattle.recover.proofs.StudyLemmas.{refused_heap, err_cause, no_memory_cause, ok_cause}
use Rattle.recover.proofs.studying.find_out.Goals as goal

pub returns-in_err-old-clause-exact : goal.returns-in_err-old-clause-exact
returns-in_err-old-clause-exact g c =
    let p = err_from_is_err_and c.from_residual-in_err-old.result c.from_residual-in_err-old.ensures.1 in
    rw (p.1, p.2) (refused_heap (g.D.Disk.device c.args.disk.now).now.bytes c.args.front.layout c.args.front.guards.items c.args.front.control c.in_err-old.field-0.0 c.in_err-old.ensures.no_other)

pub returns-in_err-old-clause-cause : goal.returns-in_err-old-clause-cause
returns-in_err-old-clause-cause g c =
    let p = err_from_is_err_and c.from_residual-in_err-old.result c.from_residual-in_err-old.ensures.1 in
    rw (p.1, p.2) (err_cause (g.D.Disk.device c.args.disk.now).failures (g.D.Disk.device c.read_live.new.disk).failures (g.D.Disk.device c.find_heap.new.disk).failures c.in_err-old.field-0.0
    c.read_live.ensures.cause.later c.in_err-old.ensures.cause)

pub returns-in_err-report-clause-cause : goal.returns-in_err-report-clause-cause
returns-in_err-report-clause-cause g c =
    let p = err_from_is_err_and c.from_residual-in_err-report.result c.from_residual-in_err-report.ensures.1 in
    let d0 = (g.D.Disk.device c.args.disk.now).failures in
    let d2 = (g.D.Disk.device c.find_heap.new.disk).failures in
    let later : d0 ≤ d2 = omega (arith, c.read_live.ensures.cause.later, c.find_heap.ensures.cause.later) in
    rw (p.1, p.2) (no_memory_cause d0 d2 c.in_err-report.field-0.0 later c.in_err-report.ensures.exact)

pub returns-clause-exact : goal.returns-clause-exact
returns-clause-exact g c = record {
  holds = c.in_ok-image.ensures.exact;
  stands = subst (λ (m : Moment). StandsFor c.in_ok-image.field-0.image.layout m.bytes c.in_ok-old.old.heap.items) c.read_live.ensures.same.now c.in_ok-old.ensures.stands;
  reports = c.in_ok-report.ensures.exact;
}

pub returns-clause-cause : goal.returns-clause-cause
returns-clause-cause g c =
    let d0 = (g.D.Disk.device c.args.disk.now).failures in
    let d2 = (g.D.Disk.device c.find_heap.new.disk).failures in
    let later : d0 ≤ d2 = omega (arith, c.read_live.ensures.cause.later, c.find_heap.ensures.cause.later) in
    ok_cause d0 d2 _ later
