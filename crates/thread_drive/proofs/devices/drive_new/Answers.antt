use Rattle.std.proofs.Common.{◌≡◌, ap, subst}
use Rattle.std.proofs.lemmas.Result.{IfOk-weaker}
use Rattle.guards.specs.Schema.{Declarations}
use Rattle.thread_work.proofs.Refused.{anyway, weaker_both}
use Rattle.image_parts.specs.declared.layout.Layout.{Layout}
use Rattle.store_image.specs.Formatting.{RefusesFormat}
use Rattle.trim_helper.specs.Opening.{FitsSchema}
use Rattle.thread_drive.specs.Refusals.{IsOwnStop, RefusesNew}
use Rattle.thread_drive.specs.Schemas.{IsOfWorkers, schema_of}
use Rattle.thread_drive.specs.Stops.{StopsRun}
use Rattle.thread_drive.proofs.Refused.{just, made_from, made_new}
use Rattle.thread_drive.proofs.devices.drive_new.Goals as goal

pub drive_made-requires-clause-theirs : goal.drive_made-requires-clause-theirs
drive_made-requires-clause-theirs g c κs within =
    let made = c.in-Ok-make_heap.made in
    let is : c.in-Ok.schema ≡ schema_of c.args.workers = c.in-Ok.ensures.ok in
    record {
      lanes = just c.args.workers made.layout.lanes (ap (λ (l : Layout). l.lanes) c.in-Ok-make_heap.ensures.made.layout) c.in-Ok-make_heap.ensures.limits.lanes_some;
      fits = subst (λ (s : Declarations). FitsSchema s made.layout made.guards) is c.in-Ok-make_heap.ensures.fits;
    }

pub returns-in-Ok-make_heap-clause-ok : goal.returns-in-Ok-make_heap-clause-ok
returns-in-Ok-make_heap-clause-ok g c =
    let device = g.D.Disk.device in
    let made = c.in-Ok-make_heap.made in
    let workers = c.args.workers in
    let is : c.in-Ok.schema ≡ schema_of workers = c.in-Ok.ensures.ok in
    let theirs : IsOfWorkers workers made.layout made.guards = record {
      lanes = just c.args.workers made.layout.lanes (ap (λ (l : Layout). l.lanes) c.in-Ok-make_heap.ensures.made.layout) c.in-Ok-make_heap.ensures.limits.lanes_some;
      fits = subst (λ (s : Declarations). FitsSchema s made.layout made.guards) is c.in-Ok-make_heap.ensures.fits;
    } in
    IfOk-weaker c.drive_made.result _ _
    (λ r so. record { was = made; made = made_from device workers c.in-Ok.schema (device c.args.disk) made is c.in-Ok-make_heap.ensures.made; theirs = theirs; driven_so = so })
    c.drive_made.ensures.ok

pub returns-in-Ok-make_heap-clause-workers : goal.returns-in-Ok-make_heap-clause-workers
returns-in-Ok-make_heap-clause-workers g c = anyway c.drive_made.result c.in-Ok-make_heap.ensures.limits

pub returns-in-Ok-make_heap-clause-refused : goal.returns-in-Ok-make_heap-clause-refused
returns-in-Ok-make_heap-clause-refused g c =
    let device = g.D.Disk.device in
    let old = device c.args.disk in
    let made = c.in-Ok-make_heap.made in
    let workers = c.args.workers in
    let is : c.in-Ok.schema ≡ schema_of workers = c.in-Ok.ensures.ok in
    let theirs : IsOfWorkers workers made.layout made.guards = record {
      lanes = just c.args.workers made.layout.lanes (ap (λ (l : Layout). l.lanes) c.in-Ok-make_heap.ensures.made.layout) c.in-Ok-make_heap.ensures.limits.lanes_some;
      fits = subst (λ (s : Declarations). FitsSchema s made.layout made.guards) is c.in-Ok-make_heap.ensures.fits;
    } in
    weaker_both c.drive_made.result (λ back. StopsRun device (schema_of workers) workers made (device back.0) back.1) (λ back. IsOwnStop back.1) (λ back. RefusesNew device workers old (device back.0) back.1)
    (λ back stops own. made_new device workers old made (device back.0) back.1 c.in-Ok-make_heap.ensures.limits
    (made_from device workers c.in-Ok.schema old made is c.in-Ok-make_heap.ensures.made) theirs c.in-Ok-make_heap.ensures.failures stops own)
    c.drive_made.ensures.cause c.drive_made.ensures.own

pub returns-in-Err-make_heap-clause-refused : goal.returns-in-Err-make_heap-clause-refused
returns-in-Err-make_heap-clause-refused g c =
    let device = g.D.Disk.device in
    subst (λ (s : Declarations). RefusesFormat s c.args.workers 4000 (device c.args.disk) (device c.in-Err-make_heap.disk) c.in-Err-make_heap.refusal) c.in-Ok.ensures.ok c.in-Err-make_heap.ensures.refused
