use Rattle.std.proofs.lemmas.Result.{IfOk-weaker}
use Rattle.thread_work.specs.Serving.{CrashesBy}
use Rattle.thread_work.specs.Stops.{StopsEnd, StopsRun}
use Rattle.thread_work.proofs.Refused.{weaker_both}
use Rattle.thread_work.proofs.Returning.{ran_from, stopped_from}
use Rattle.thread_work.proofs.running.run_heap.Goals as goal

pub close_returned-requires : goal.close_returned-requires
close_returned-requires g c = c.in-Ok.ensures.ok.back

pub returns-in-Ok-clause-ok : goal.returns-in-Ok-clause-ok
returns-in-Ok-clause-ok g c =
    let a = c.args in
    IfOk-weaker c.close_returned.result _ _ (λ r ran. ran_from (g.W.Work.does a.work.now) g.D.Disk.device a.schema a.threads a.recovered r.0 c.in-Ok.returned r.1 c.in-Ok.ensures.ok ran) c.close_returned.ensures.ok

pub returns-in-Ok-clause-cause : goal.returns-in-Ok-clause-cause
returns-in-Ok-clause-cause g c =
    let device = g.D.Disk.device in
    let does = g.W.Work.does c.args.work.now in
    let x = c.in-Ok.returned in
    weaker_both c.close_returned.result (λ back. StopsEnd (device x.helper.store.disk) (device back.0) back.1) (λ back. CrashesBy device does x.shared x.helper (device back.0) back.1)
    (λ back. StopsRun does device c.args.schema c.args.threads c.args.recovered (device back.0) back.1)
    (λ back stops crashes. stopped_from does device c.args.schema c.args.threads c.args.recovered x (device back.0) back.1 c.in-Ok.ensures.ok stops crashes)
    c.close_returned.ensures.cause c.close_returned.ensures.crashes
