use Rattle.std.proofs.Common.{inr, sym, subst, arith}
use Rattle.block_disk.specs.Device.{Moment}
use Rattle.thread_work.specs.Runs.{Holds}
use Rattle.thread_work.proofs.Recovered.{recovery_alike}
use Rattle.thread_work.proofs.Refused.{looked, not_found_alike}
use Rattle.thread_work.proofs.devices.find_heap.Goals as goal

pub find-requires : goal.find-requires
find-requires g c = subst (λ (m : Moment). Holds c.args.schema.now c.args.threads m.bytes) (sym c.look.ensures.same.now) c.in_default.ensures.ok

pub returns-in-Err-clause-refused : goal.returns-in-Err-clause-refused
returns-in-Err-clause-refused g c =
    let device = g.D.Disk.device in
    looked c.args.schema.now c.args.threads (device c.args.disk) (device c.look.new.disk) c.in-Err.refusal c.look.ensures.same c.in-Err.ensures.refused

pub returns-in-Ok-clause-found : goal.returns-in-Ok-clause-found
returns-in-Ok-clause-found g c =
    let device = g.D.Disk.device in
    let r = c.in-Ok.found in
    let first = c.look.ensures.failures in
    let second = c.in-Ok.ensures.failures in
    record {
      found = recovery_alike (device c.args.disk) (device c.look.new.disk) (device r.0.disk) r.0 r.1 c.look.ensures.same c.in-Ok.ensures.found;
      theirs = c.in-Ok.ensures.theirs;
      later = omega (arith, first, second);
    }

pub returns-in-Ok-clause-theirs : goal.returns-in-Ok-clause-theirs
returns-in-Ok-clause-theirs g c = c.in_default.ensures.ok

pub returns-in-Err-find-clause-refused : goal.returns-in-Err-find-clause-refused
returns-in-Err-find-clause-refused g c =
    let device = g.D.Disk.device in
    inr (c.in_default.ensures.ok, not_found_alike (device c.args.disk) (device c.look.new.disk) (device c.in-Err-find.disk) c.in-Err-find.refusal c.look.ensures.same c.look.ensures.failures c.in-Err-find.ensures.refused)
