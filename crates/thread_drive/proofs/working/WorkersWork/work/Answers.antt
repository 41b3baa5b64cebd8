use Rattle.std.proofs.Common.{◌+◌, IfErr, subst}
use Rattle.heap_model.specs.declared.ids.Lane.{Lane}
use Rattle.session.specs.Sessions.{capacity_of, view_of}
use Rattle.thread_drive.specs.Working.{StopsAt}
use Rattle.thread_drive.proofs.Holding.{at_first}
use Rattle.thread_drive.proofs.working.WorkersWork.work.Goals as goal

pub work_all-requires-clause-seat : goal.work_all-requires-clause-seat
work_all-requires-clause-seat g c = c.requires.of

pub work_all-requires-clause-free : goal.work_all-requires-clause-free
work_all-requires-clause-free g c = at_first (view_of c.args.thread.now).plan (view_of c.args.thread.now).events c.requires.new

pub returns : goal.returns
returns g c = record {
  of = c.work_all.ensures.seat;
  free = c.work_all.ensures.free;
  refused =
      subst (λ (l : Lane). IfErr c.work_all.result (StopsAt g.J.Joint.home (l.0 + 1) (capacity_of c.args.thread.now))) c.lane-worker.ensures c.work_all.ensures.refused;
}
