use Rattle.std.proofs.Common.{IfErr, subst, sym}
use Rattle.std.proofs.lemmas.Result.{IfOk-weaker}
use Rattle.guards.specs.Schema.{Declarations}
use Rattle.trim_helper.specs.Opening.{FitsSchema}
use Rattle.thread_drive.specs.Driven.{IsDriven}
use Rattle.thread_drive.specs.Refusals.{IsOwnStop}
use Rattle.thread_drive.specs.Schemas.{schema_of}
use Rattle.thread_drive.specs.Stops.{StopsRun}
use Rattle.thread_work.proofs.Refused.{weaker}
use Rattle.thread_drive.proofs.Refused.{own_stops}
use Rattle.thread_drive.proofs.devices.drive_made.Goals as goal

pub drive_heap-requires-clause-schema : goal.drive_heap-requires-clause-schema
drive_heap-requires-clause-schema g c κs within =
    let made = c.args.made in
    subst (λ (s : Declarations). FitsSchema s made.layout made.guards) (sym c.requires.schema) c.requires.theirs.fits

pub returns-clause-ok : goal.returns-clause-ok
returns-clause-ok g c =
    IfOk-weaker c.drive_heap.result _ _
    (λ r so. subst (λ (s : Declarations). IsDriven g.D.Disk.device s c.args.workers c.args.made r.0 r.1) c.requires.schema so)
    c.drive_heap.ensures.ok

pub returns-clause-cause : goal.returns-clause-cause
returns-clause-cause g c =
    let device = g.D.Disk.device in
    subst (λ (s : Declarations). IfErr c.drive_heap.result (λ back. StopsRun device s c.args.workers c.args.made (device back.0) back.1)) c.requires.schema c.drive_heap.ensures.cause

pub returns-clause-own : goal.returns-clause-own
returns-clause-own g c =
    let device = g.D.Disk.device in
    weaker c.drive_heap.result (λ back. StopsRun device (schema_of c.args.workers) c.args.workers c.args.made (device back.0) back.1) (λ back. IsOwnStop back.1)
    (λ back stops. own_stops device c.args.workers c.args.made (device back.0) back.1 stops) (returns-clause-cause g c)
