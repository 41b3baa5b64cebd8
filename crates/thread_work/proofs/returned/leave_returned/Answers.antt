use Rattle.std.proofs.Common.{sym, ap, subst}
use Rattle.block_disk.specs.Device.{Device}
use Rattle.thread_heap.proofs.Ending.{are_ended}
use Rattle.thread_steps.specs.Views.{plan}
use Rattle.thread_work.specs.Crashes.{HaveLeft}
use Rattle.thread_work.proofs.Ends.{living_left}
use Rattle.thread_work.proofs.Left.{have_ended}
use Rattle.thread_work.proofs.returned.leave_returned.Goals as goal

pub leave-requires-clause-ended : goal.leave-requires-clause-ended
leave-requires-clause-ended g c =
    let r = c.args.returned in
    are_ended r.shared r.helper.store.known.layout.capacity r.helper.rings r.ended.items c.requires.ended

pub returns-clause-left : goal.returns-clause-left
returns-clause-left g c = λ opened p was.
    let device = g.D.Disk.device in
    let does = g.W.Work.does c.args.work.now in
    let r = c.args.returned in
    let x = r.helper in
    let l = x.store.known.layout in
    let es = r.ended.items in
    subst (λ (d : Device). HaveLeft does r.shared l es opened d) (sym (ap device c.leave.ensures.disk))
    (living_left device does r.shared x opened p es c.round_law.ensures.between c.round_law.ensures.now c.requires.helping c.requires.ended
    (have_ended does r.shared l x.rings es r.answer c.requires.ended c.requires.lanes c.requires.called) (c.leave.ensures.history, λ q serving. c.leave.ensures.read (plan r.shared) q serving) was)
