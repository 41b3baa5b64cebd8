use Rattle.thread_work.proofs.Refused.{stopped_on, unfound_on}
use Rattle.thread_work.proofs.devices.run_on.Goals as goal

pub run_there-requires-clause-theirs : goal.run_there-requires-clause-theirs
run_there-requires-clause-theirs g c κs within = c.in-Ok.ensures.found.theirs

pub returns-in-Err-clause-refused : goal.returns-in-Err-clause-refused
returns-in-Err-clause-refused g c =
    let device = g.D.Disk.device in
    unfound_on (g.W.Work.does c.args.work.now) device c.args.schema c.args.threads (device c.args.disk) (device c.in-Err.back.0) c.in-Err.back.1 c.in-Err.ensures.refused

pub returns-in-Ok-run_there-clause-ok : goal.returns-in-Ok-run_there-clause-ok
returns-in-Ok-run_there-clause-ok g c =
    let found = c.in-Ok.ensures.found in
    record { was = c.in-Ok.found.0; found = found.found; theirs = found.theirs; ran = c.in-Ok-run_there.ensures.ok }

pub returns-in-Ok-run_there-clause-theirs : goal.returns-in-Ok-run_there-clause-theirs
returns-in-Ok-run_there-clause-theirs g c = c.in-Ok.ensures.theirs

pub returns-in-Err-run_there-clause-refused : goal.returns-in-Err-run_there-clause-refused
returns-in-Err-run_there-clause-refused g c =
    let device = g.D.Disk.device in
    stopped_on (g.W.Work.does c.args.work.now) device c.args.schema c.args.threads (device c.args.disk) c.in-Ok.found.0 c.in-Ok.found.1 (device c.in-Err-run_there.back.0) c.in-Err-run_there.back.1 c.in-Ok.ensures.theirs c.in-Ok.ensures.found
    c.in-Err-run_there.ensures.cause
