use Rattle.std.proofs.Common.{sym, subst}
use Rattle.std.proofs.lemmas.Result.{IfOk-weaker}
use Rattle.guards.specs.Schema.{Declarations}
use Rattle.thread_work.proofs.Refused.{anyway, weaker_both}
use Rattle.thread_work.specs.Runs.{HasFound, Holds, RefusesFound}
use Rattle.thread_drive.specs.Refusals.{IsOwnStop, RefusesOn}
use Rattle.thread_drive.specs.Schemas.{HoldsWorkers, schema_of}
use Rattle.thread_drive.specs.Stops.{StopsRun}
use Rattle.thread_drive.specs.declared.error.DriveError.{DriveError}
use Rattle.thread_drive.proofs.Refused.{stopped_on, unfound_on}
use Rattle.thread_drive.proofs.devices.drive_on.Goals as goal

pub drive_made-requires-clause-theirs : goal.drive_made-requires-clause-theirs
drive_made-requires-clause-theirs g c κs within =
    let device = g.D.Disk.device in
    let r = c.in-Ok-find_heap in
    (subst (λ (s : Declarations). HasFound device s c.args.workers (device c.args.disk) r.report r.found) c.in-Ok.ensures.ok r.ensures.found).theirs

pub returns-in-Ok-find_heap-clause-ok : goal.returns-in-Ok-find_heap-clause-ok
returns-in-Ok-find_heap-clause-ok g c =
    let device = g.D.Disk.device in
    let r = c.in-Ok-find_heap in
    let found = subst (λ (s : Declarations). HasFound device s c.args.workers (device c.args.disk) r.report r.found) c.in-Ok.ensures.ok r.ensures.found in
    IfOk-weaker c.drive_made.result _ _ (λ back so. record { was = r.found; report = r.report; found = found.found; theirs = found.theirs; driven_so = so }) c.drive_made.ensures.ok

pub returns-in-Ok-find_heap-clause-theirs : goal.returns-in-Ok-find_heap-clause-theirs
returns-in-Ok-find_heap-clause-theirs g c =
    anyway c.drive_made.result (subst (λ (s : Declarations). Holds s c.args.workers (g.D.Disk.device c.args.disk).now.bytes) c.in-Ok.ensures.ok c.in-Ok-find_heap.ensures.theirs)

pub returns-in-Ok-find_heap-clause-refused : goal.returns-in-Ok-find_heap-clause-refused
returns-in-Ok-find_heap-clause-refused g c =
    let device = g.D.Disk.device in
    let r = c.in-Ok-find_heap in
    let workers = c.args.workers in
    let old = device c.args.disk in
    let found = subst (λ (s : Declarations). HasFound device s workers old r.report r.found) c.in-Ok.ensures.ok r.ensures.found in
    let holds : HoldsWorkers workers old.now.bytes = subst (λ (s : Declarations). Holds s workers old.now.bytes) c.in-Ok.ensures.ok r.ensures.theirs in
    weaker_both c.drive_made.result (λ back. StopsRun device (schema_of workers) workers r.found (device back.0) back.1) (λ back. IsOwnStop back.1) (λ back. RefusesOn device workers old (device back.0) back.1)
    (λ back stops own. stopped_on device workers old r.found r.report (device back.0) back.1 holds found stops own)
    c.drive_made.ensures.cause c.drive_made.ensures.own

pub returns-in-Err-find_heap-clause-refused : goal.returns-in-Err-find_heap-clause-refused
returns-in-Err-find_heap-clause-refused g c =
    let device = g.D.Disk.device in
    let old = device c.args.disk in
    let new = device c.in-Err-find_heap.disk in
    let e = c.in-Err-find_heap.refusal in
    subst (λ (d : DriveError). RefusesOn device c.args.workers old new d) (sym c.said.ensures)
    (unfound_on device c.args.workers old new e (subst (λ (s : Declarations). RefusesFound s c.args.workers old new e) c.in-Ok.ensures.ok c.in-Err-find_heap.ensures.refused))
