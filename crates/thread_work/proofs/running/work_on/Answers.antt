use Rattle.std.proofs.Common.{◌≡◌, All, ap, inl, subst, sym, ◌∙◌}
use Rattle.std.proofs.lemmas.Result.{IfOk-weaker}
use Rattle.block_disk.specs.Device.{Device}
use Rattle.image_parts.specs.declared.layout.Layout.{Layout}
use Rattle.monitor.specs.declared.view.Plan.{Plan}
use Rattle.thread_heap.specs.Joined.{IsJoined}
use Rattle.thread_work.specs.Crashes.{CrashesOf, TakesEach}
use Rattle.thread_work.specs.Stops.{StopsBy, StopsRun}
use Rattle.thread_work.specs.Serving.{CrashesBy}
use Rattle.thread_work.proofs.Refused.{run_stops, weaker_both}
use Rattle.thread_work.proofs.Returning.{returned_from}
use Rattle.thread_work.proofs.Served.{begins_living}
use Rattle.heap_model.specs.Past.{no_past}
use Rattle.thread_work.proofs.running.work_on.Goals as goal

pub run-requires-clause-joined : goal.run-requires-clause-joined
run-requires-clause-joined g c κs within =
    let o = c.in-Ok.heap in
    subst (λ (l : Layout). All (IsJoined o.shared l.capacity o.helper.rings) o.sessions.items) (sym c.in-Ok.ensures.opened.layout) c.in-Ok.ensures.opened.joined

pub run-requires-clause-count : goal.run-requires-clause-count
run-requires-clause-count g c κs within = c.in-Ok.ensures.opened.count ∙ sym (ap (λ (k : Plan). k.lanes) c.in-Ok.ensures.opened.plan_is)

pub run-requires-clause-new : goal.run-requires-clause-new
run-requires-clause-new g c κs within = c.in-Ok.ensures.opened.fresh

pub run-requires-clause-helping : goal.run-requires-clause-helping
run-requires-clause-helping g c κs within = c.in-Ok.ensures.opened.helping

pub run-requires-clause-running : goal.run-requires-clause-running
run-requires-clause-running g c κs within = c.in-Ok.ensures.opened.running

pub returns-in-Ok-clause-ok : goal.returns-in-Ok-clause-ok
returns-in-Ok-clause-ok g c =
    let device = g.D.Disk.device in
    let o = c.in-Ok.heap in
    let living = begins_living device o.shared o.helper c.life_law.ensures.begins c.in-Ok.ensures.opened.helping.lanes c.in-Ok.ensures.opened.past c.in-Ok.ensures.opened.running in
    IfOk-weaker c.run.result _ _
    (λ r come. returned_from (g.W.Work.does c.args.work.now) device c.args.schema c.args.threads c.args.recovered o.shared o.helper r c.round_law.ensures.between c.in-Ok.ensures.opened.plan_is c.in-Ok.ensures.opened.layout (ap device c.in-Ok.ensures.opened.disk) living come)
    c.run.ensures.ok

pub returns-in-Ok-clause-cause : goal.returns-in-Ok-clause-cause
returns-in-Ok-clause-cause g c =
    let device = g.D.Disk.device in
    let does = g.W.Work.does c.args.work.now in
    let heap = c.in-Ok.heap in
    let l = heap.helper.store.known.layout in
    let began = device heap.helper.store.disk in
    let living = begins_living device heap.shared heap.helper c.life_law.ensures.begins c.in-Ok.ensures.opened.helping.lanes c.in-Ok.ensures.opened.past c.in-Ok.ensures.opened.running in
    let same : began ≡ device c.args.recovered.disk = ap device c.in-Ok.ensures.opened.disk in
    weaker_both c.run.result (λ back. StopsBy began (device back.0) back.1) (λ back. CrashesBy device does heap.shared heap.helper (device back.0) back.1) (λ back. StopsRun does device c.args.schema c.args.threads c.args.recovered (device back.0) back.1)
    (λ back stops crashes. run_stops does device c.args.schema c.args.threads c.args.recovered heap.shared (device back.0) back.1 c.in-Ok.ensures.opened.plan_is
    (subst (λ (d : Device). CrashesOf does heap.shared c.args.recovered.layout d (device back.0) back.1) same
    (subst (λ (k : Layout). CrashesOf does heap.shared k began (device back.0) back.1) c.in-Ok.ensures.opened.layout (crashes began no_past living)))
    (subst (λ (d : Device). StopsBy d (device back.0) back.1) same stops))
    c.run.ensures.cause c.run.ensures.crashes

pub returns-in-Err-clause-cause : goal.returns-in-Err-clause-cause
returns-in-Err-clause-cause g c =
    let device = g.D.Disk.device in
    let r = c.args.recovered in
    let same : device c.in-Err.disk ≡ device r.disk = ap device c.in-Err.ensures.refused in
    inl (same, subst (λ (d : Device). TakesEach (device r.disk) d) (sym same) (c.taken_law.ensures.recovered (device r.disk) c.layout-layout.result r.guards r.slot r.sequence r.heap c.layout-layout.ensures.recovered))
