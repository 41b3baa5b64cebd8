use Rattle.thread_work.proofs.Refused.{finding_stops}
use Rattle.thread_work.proofs.Theirs.{found_theirs}
use Rattle.thread_work.proofs.devices.find.Goals as goal

pub returns-in-Ok-clause-theirs : goal.returns-in-Ok-clause-theirs
returns-in-Ok-clause-theirs g c =
    let r = c.in-Ok.found in
    found_theirs (g.D.Disk.device c.args.disk) (g.D.Disk.device r.0.disk) r.0 r.1 c.args.schema.now c.args.threads c.one_study_law.ensures c.requires c.in-Ok.ensures.ok

pub returns-in-Err-clause-refused : goal.returns-in-Err-clause-refused
returns-in-Err-clause-refused g c =
    let device = g.D.Disk.device in
    record {
      why = finding_stops (device c.args.disk) (device c.in-Err.back.0) c.requires.0 c.in-Err.back.1 c.studied_law.ensures c.requires.1 c.in-Err.ensures.refused c.in-Err.ensures.cause;
      untouched = c.in-Err.ensures.untouched;
      cut_off = c.in-Err.ensures.cut_off;
    }
