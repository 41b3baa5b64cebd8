use Rattle.std.proofs.Common.{sym, subst, ◌∙◌}
use Rattle.thread_drive.specs.Driven.{IsDriven}
use Rattle.thread_drive.specs.Stops.{StopsRun}
use Rattle.thread_drive.specs.declared.driven.Driven.{Driven}
use Rattle.thread_drive.specs.declared.error.DriveError.{DriveError}
use Rattle.thread_drive.specs.Working.{HasCounted}
use Rattle.thread_work.proofs.Returning.{ran_from, stopped_from}
use Rattle.thread_drive.proofs.Standing.{driven_from, said_stops, session_stops}
use Rattle.thread_drive.proofs.driving.drive_heap.Goals as goal

pub close_returned-requires : goal.close_returned-requires
close_returned-requires g c = c.in-Ok.ensures.ok.back

pub leave_returned-disk-requires : goal.leave_returned-disk-requires
leave_returned-disk-requires g c = c.in-Ok.ensures.ok.back

pub returns-in-Err-clause-cause : goal.returns-in-Err-clause-cause
returns-in-Err-clause-cause g c =
    let device = g.D.Disk.device in
    let disk = device c.in-Err.disk in
    subst (λ (e : DriveError). StopsRun device c.args.schema c.args.workers c.args.recovered disk e) (sym c.said.ensures) (said_stops device c.args.schema c.args.workers c.args.recovered disk c.in-Err.refusal c.in-Err.ensures.cause)

pub returns-in-Err-answer_of-clause-cause : goal.returns-in-Err-answer_of-clause-cause
returns-in-Err-answer_of-clause-cause g c =
    let device = g.D.Disk.device in
    session_stops device c.args.schema c.args.workers c.args.recovered c.in-Ok.returned (device c.leave_returned-disk.result) c.in-Err-answer_of.refusal c.in-Ok.ensures.ok (sym c.answer_of.ensures ∙ c.in-Err-answer_of.is) c.leave_returned-disk.ensures.left

pub returns-in-Ok-close_returned-clause-ok : goal.returns-in-Ok-close_returned-clause-ok
returns-in-Ok-close_returned-clause-ok g c =
    let device = g.D.Disk.device in
    let now = c.in-Ok-close_returned.recovered in
    let outcome = c.in-Ok-close_returned.outcome in
    subst (λ (d : Driven). IsDriven device c.args.schema c.args.workers c.args.recovered now d) (sym c.told.ensures)
    (driven_from device c.args.schema c.args.workers c.args.recovered now outcome (c.in-Ok-close_returned.ensures.answer ∙ sym c.answer_of.ensures ∙ c.in_default.is) (ran_from HasCounted device c.args.schema c.args.workers c.args.recovered now c.in-Ok.returned outcome c.in-Ok.ensures.ok c.in-Ok-close_returned.ensures.ok))

pub returns-in-Err-close_returned-clause-cause : goal.returns-in-Err-close_returned-clause-cause
returns-in-Err-close_returned-clause-cause g c =
    let device = g.D.Disk.device in
    let disk = device c.in-Err-close_returned.disk in
    subst (λ (e : DriveError). StopsRun device c.args.schema c.args.workers c.args.recovered disk e) (sym c.said-in-Err-close_returned.ensures)
    (said_stops device c.args.schema c.args.workers c.args.recovered disk c.in-Err-close_returned.refusal
    (stopped_from HasCounted device c.args.schema c.args.workers c.args.recovered c.in-Ok.returned disk c.in-Err-close_returned.refusal c.in-Ok.ensures.ok c.in-Err-close_returned.ensures.cause c.in-Err-close_returned.ensures.crashes))
