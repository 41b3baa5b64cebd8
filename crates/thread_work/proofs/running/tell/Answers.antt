use Rattle.std.proofs.Common.{◌∙◌}
use Rattle.thread_work.proofs.Stopped.{telling_stops}
use Rattle.thread_work.proofs.Taken.{cut_off_there}
use Rattle.thread_work.proofs.running.tell.Goals as goal

pub returns-clause-ok : goal.returns-clause-ok
returns-clause-ok g c = record {
  report = c.in-Ok.found.1;
  recovery = c.in-Ok.ensures.ok;
  acknowledged = c.in-Ok-to_vec.ensures.items_if_clones_equal (λ x y same. same) ∙ c.first_counts-counts.ensures;
  any_moment = c.in-Ok.ensures.any_moment;
  heap = c.in-Ok-to_vec-2.ensures.items_if_clones_equal (λ x y same. same) ∙ c.heap.ensures.heap;
}

pub returns-in_default-clause-cut_off : goal.returns-in_default-clause-cut_off
returns-in_default-clause-cut_off g c =
    let device = g.D.Disk.device in
    cut_off_there device (device c.args.disk) c.in-Ok.found.0 c.in-Ok.found.1 c.in-Ok.ensures.ok c.in-Ok.ensures.any_moment c.into_disk.result c.into_disk.ensures.disk

pub returns-in_default-to_vec-clause-cut_off : goal.returns-in_default-to_vec-clause-cut_off
returns-in_default-to_vec-clause-cut_off g c =
    let device = g.D.Disk.device in
    cut_off_there device (device c.args.disk) c.in-Ok.found.0 c.in-Ok.found.1 c.in-Ok.ensures.ok c.in-Ok.ensures.any_moment c.into_disk-in_default-to_vec.result c.into_disk-in_default-to_vec.ensures.disk

pub returns-in-Err-clause-cause : goal.returns-in-Err-clause-cause
returns-in-Err-clause-cause g c =
    let device = g.D.Disk.device in
    telling_stops (device c.args.disk) (device c.in-Err.disk) c.in-Err.refusal c.in-Err.ensures.refused c.in-Err.ensures.cause
