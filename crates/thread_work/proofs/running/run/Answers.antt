use Rattle.std.proofs.Common.{◌≡◌, false, IfOk, OnErr, OnOk, ap, refl, sym, ◌∙◌, subst}
use Rattle.std.specs.List.{range_with_len}
use Rattle.image_parts.specs.declared.layout.Layout.{Layout}
use Rattle.thread_heap.proofs.Ending.{are_ended}
use Rattle.thread_steps.specs.Views.{plan}
use Rattle.trim_helper.specs.Heard.{HasSeen}
use Rattle.thread_work.specs.Bodies.{AreWorked, WereCalled}
use Rattle.thread_work.specs.Serving.{CrashesSince, LivesOn}
use Rattle.thread_work.specs.declared.error.RunError.TheVariants.{NoThread}
use Rattle.thread_work.proofs.Ends.{back_same, back_served, back_stopped, back_threadless}
use Rattle.thread_work.proofs.Lanes.{all_first, lanes_up}
use Rattle.thread_work.proofs.Later.{ended_later}
use Rattle.thread_work.proofs.Left.{have_ended}
use Rattle.thread_work.proofs.Returning.{have_returned}
use Rattle.thread_work.proofs.running.run.Goals as goal

pub work_beside-requires-clause-first : goal.work_beside-requires-clause-first
work_beside-requires-clause-first g c κs within =
    let heap = c.args.heap in
    all_first heap.shared heap.helper.store.known.layout.capacity 0 heap.helper.rings heap.sessions.items c.requires.joined c.requires.new

pub returns-in-Err-clause-crashes : goal.returns-in-Err-clause-crashes
returns-in-Err-clause-crashes g c =
    let device = g.D.Disk.device in
    let does = g.W.Work.does c.args.work.now in
    let h = c.args.heap.shared in
    let y = c.in-Err.helper in
    let disk = c.disk_of.result in
    back_same device does h c.args.heap.helper y (device disk) NoThread c.in-Err.ensures.no_thread (back_threadless device does h y disk c.round_law.ensures.between c.disk_of.ensures)

pub returns-in-Err-clause-cause : goal.returns-in-Err-clause-cause
returns-in-Err-clause-cause g c = ap g.D.Disk.device (c.disk_of.ensures ∙ ap (λ x. x.store.disk) c.in-Err.ensures.no_thread)

pub returns-in_default-clause-crashes : goal.returns-in_default-clause-crashes
returns-in_default-clause-crashes g c =
    let device = g.D.Disk.device in
    let does = g.W.Work.does c.args.work.now in
    let heap = c.args.heap in
    let beside = c.in-Ok.beside in
    back_served device does heap.shared heap.helper beside.served.helper c.disk_of-in_default.result beside.served.answer c.round_law.ensures.between c.in-Ok.ensures.beside.served c.disk_of-in_default.ensures

pub leave-requires-clause-ended : goal.leave-requires-clause-ended
leave-requires-clause-ended g c =
    let device = g.D.Disk.device in
    let does = g.W.Work.does c.args.work.now in
    let heap = c.args.heap in
    let x = heap.helper in
    let y = c.in-Ok.beside.served.helper in
    let es = c.in-Some.all.ended.items in
    let beside = c.in-Ok.ensures.beside in
    let capacity = x.store.known.layout.capacity in
    let all = subst (λ r. IfOk r (AreWorked does heap.shared capacity x.rings heap.sessions.items)) c.in-Some.ensures (beside.worked capacity x.rings c.requires.joined) in
    are_ended heap.shared y.store.known.layout.capacity y.rings es (ended_later device heap.shared x y es c.joined_law.ensures.ended beside.served.stayed all.ended)

pub returns-in-Err-answer-clause-crashes : goal.returns-in-Err-answer-clause-crashes
returns-in-Err-answer-clause-crashes g c =
    let device = g.D.Disk.device in
    let does = g.W.Work.does c.args.work.now in
    let heap = c.args.heap in
    let h = heap.shared in
    let x = heap.helper in
    let y = c.in-Ok.beside.served.helper in
    let es = c.in-Some.all.ended.items in
    let a = c.in-Some.all.answered in
    let beside = c.in-Ok.ensures.beside in
    let served = beside.served in
    let capacity = x.store.known.layout.capacity in
    let all = subst (λ r. IfOk r (AreWorked does h capacity x.rings heap.sessions.items)) c.in-Some.ensures (beside.worked capacity x.rings c.requires.joined) in
    let ended = ended_later device h x y es c.joined_law.ensures.ended served.stayed all.ended in
    let called = subst (λ (l : Layout). WereCalled does h l.capacity a es) (sym served.stayed.layout) all.called in
    let are = have_ended does h y.store.known.layout y.rings es a ended (all.lanes ∙ lanes_up 0 heap.sessions.items c.requires.new ∙ ap (range_with_len 0) c.requires.count) called in
    back_stopped device does h x y c.leave.result c.in-Err-answer.reason es c.seen_law.ensures c.round_law.ensures.now served.stayed
    (subst (λ r. OnErr r (CrashesSince device h x y)) c.in-Err-answer.is served.crashes) (subst (λ r. OnErr r (HasSeen h y)) c.in-Err-answer.is served.seen) served.helping ended are
    (c.leave.ensures.history, λ p serving. c.leave.ensures.read (plan h) p serving) c.leave.ensures.disk

pub returns-clause-ok : goal.returns-clause-ok
returns-clause-ok g c =
    let device = g.D.Disk.device in
    let does = g.W.Work.does c.args.work.now in
    let heap = c.args.heap in
    let h = heap.shared in
    let x = heap.helper in
    let y = c.in-Ok.beside.served.helper in
    let es = c.in-Some.all.ended.items in
    let beside = c.in-Ok.ensures.beside in
    let served = beside.served in
    let capacity = x.store.known.layout.capacity in
    let all = subst (λ r. IfOk r (AreWorked does h capacity x.rings heap.sessions.items)) c.in-Some.ensures (beside.worked capacity x.rings c.requires.joined) in
    have_returned does device h x (record { shared = h; ended = c.in-Some.all.ended; answer = c.in-Some.all.answered; helper = y }) refl served.stayed
    (subst (λ r. OnOk r (LivesOn device h x y)) c.in_default-answer.is served.lives) served.helping (subst (λ r. OnOk r (y.store.known.has_failed ≡ false)) c.in_default-answer.is served.running)
    (ended_later device h x y es c.joined_law.ensures.ended served.stayed all.ended) (all.lanes ∙ lanes_up 0 heap.sessions.items c.requires.new ∙ ap (range_with_len 0) c.requires.count) all.called
