use Rattle.std.proofs.Common.{ℕ, subst, sym, ◌∙◌}
use Rattle.recover.specs.Recovery.{IsCutOff}
use Rattle.trim_helper.specs.Endings.{IsComplete, RefusesClosing}
use Rattle.thread_work.specs.Bodies.{Answer, WereCalled}
use Rattle.thread_work.specs.Outcomes.{IsTold}
use Rattle.thread_work.specs.Serving.{CrashesBy}
use Rattle.thread_work.specs.Stops.{StopsEnd, StopsTelling}
use Rattle.thread_work.proofs.Ends.{closed_left, closing_left, telling_crashes}
use Rattle.thread_work.proofs.Left.{have_ended}
use Rattle.thread_work.proofs.Refused.{both_ok, weaker, weaker_both}
use Rattle.thread_work.proofs.Stopped.{close_stops, told_stops}
use Rattle.thread_work.proofs.running.close_all.Goals as goal

pub returns-in-Ok-clause-ok : goal.returns-in-Ok-clause-ok
returns-in-Ok-clause-ok g c =
    let device = g.D.Disk.device in
    both_ok c.tell.result _ _ _
    (λ r told is opened p was. let from = c.in-Ok.ensures.from p was.lived.serving in record {
      ended = c.args.ended.items;
      lanes = c.requires.lanes;
      called = subst (λ (a : Answer). WereCalled (g.W.Work.does c.args.work.now) c.args.shared c.args.helper.store.known.layout.capacity a c.args.ended.items) (sym is) c.requires.called;
      none = c.requires.none;
      complete = c.requires.complete;
      disk = c.in-Ok.disk;
      closed = from.closed;
      crashes = c.crash_law.ensures c.args.shared opened (device c.in-Ok.disk) c.args.helper p c.args.ended.items was.lived from;
      told = subst (λ (n : ℕ). IsTold device n (device c.in-Ok.disk) r.0 r.1) (c.threads-threads.ensures ∙ sym c.requires.helper.lanes) told;
    })
    c.tell.ensures.ok c.tell.ensures.answer

pub returns-in-Ok-clause-cause : goal.returns-in-Ok-clause-cause
returns-in-Ok-clause-cause g c =
    let device = g.D.Disk.device in
    let old = device c.args.helper.store.disk in
    let closed = device c.in-Ok.disk in
    weaker c.tell.result (λ back. StopsTelling closed (device back.0) back.1) (λ back. StopsEnd old (device back.0) back.1) (λ back stops. told_stops old closed (device back.0) back.1 stops) c.tell.ensures.cause

pub returns-in-Ok-clause-crashes : goal.returns-in-Ok-clause-crashes
returns-in-Ok-clause-crashes g c =
    let device = g.D.Disk.device in
    let does = g.W.Work.does c.args.work.now in
    let h = c.args.shared in
    let x = c.args.helper in
    let l = x.store.known.layout in
    let es = c.args.ended.items in
    let closed = device c.in-Ok.disk in
    let are = have_ended does h l x.rings es c.args.answer c.requires.ended c.requires.lanes c.requires.called in
    weaker_both c.tell.result (λ back. IsCutOff closed (device back.0)) (λ back. StopsTelling closed (device back.0) back.1) (λ back. CrashesBy device does h x (device back.0) back.1)
    (λ back cut_off stops opened p was.
    let serving = was.lived.serving in
    let read = (c.in-Ok.ensures.closes p serving).read c.requires.none (subst (λ (n : ℕ). IsComplete n es) c.requires.helper.lanes c.requires.complete) in
    let left = closed_left device does h opened closed x p es was.lived c.requires.helper c.requires.ended are c.two_syncs_law.ensures (device back.0) c.crash_law.ensures c.taken_law.ensures.recovery c.requires.none c.requires.complete (c.in-Ok.ensures.from p serving) read cut_off in
    telling_crashes does c.two_syncs_law.ensures h l opened closed (device back.0) back.1 left stops)
    c.tell.ensures.cut_off c.tell.ensures.cause

pub returns-in-Err-clause-cause : goal.returns-in-Err-clause-cause
returns-in-Err-clause-cause g c =
    let device = g.D.Disk.device in
    let known = c.args.helper.store.known in
    let es = c.args.ended.items in
    let e = c.in-Err.refusal in
    let closes = c.in-Err.ensures.closes c.requires.helper.past c.requires.helper.serving in
    close_stops c.args.shared.plan.lanes es known (device c.args.helper.store.disk) (device c.in-Err.disk) e c.requires.running c.requires.none c.requires.complete
    (subst (λ (n : ℕ). RefusesClosing n es e) (sym c.requires.helper.lanes) closes.refused) closes.why

pub returns-in-Err-clause-crashes : goal.returns-in-Err-clause-crashes
returns-in-Err-clause-crashes g c = λ opened p was.
    let device = g.D.Disk.device in
    let does = g.W.Work.does c.args.work.now in
    let h = c.args.shared in
    let x = c.args.helper in
    let es = c.args.ended.items in
    let are = have_ended does h x.store.known.layout x.rings es c.args.answer c.requires.ended c.requires.lanes c.requires.called in
    let closes = c.in-Err.ensures.closes p was.lived.serving in
    closing_left device does h opened (device c.in-Err.disk) x p es was.lived c.requires.helper c.requires.ended are c.two_syncs_law.ensures c.taken_law.ensures.run closes.stood
    (closes.read c.requires.none (subst (λ (n : ℕ). IsComplete n es) c.requires.helper.lanes c.requires.complete))
