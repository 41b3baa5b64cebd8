use Rattle.std.proofs.Common.{sym, subst}
use Rattle.monitor.specs.Seats.{Home}
use Rattle.std.specs.Arc.{arc_value}
use Rattle.thread_steps.specs.Views.{plan}
use Rattle.trim_helper.specs.Parts.{IsServing}
use Rattle.trim_helper.proofs.Besides.{serves_still}
use Rattle.host_heap.specs.Hosting.{Hosting, hosted_device}
use Rattle.host_heap.proofs.Meetings.{kept_at}
use Rattle.host_heap.proofs.heap.HostedHeap.acknowledged.Goals as goal

pub returns-clause-ok : goal.returns-clause-ok
returns-clause-ok c = λ p serving.
    let was = c.args.self.now in
    let now = c.has_calls.new.self in
    let same = c.has_calls.ensures.heap in
    let served : IsServing hosted_device now.helper (plan now.home) p =
    serves_still hosted_device was.helper now.helper (plan now.home) p same.helper (subst (λ (h : Home). IsServing hosted_device was.helper (plan h) p) (sym same.home) serving) in
    c.acknowledged.ensures (plan (arc_value c.self-2.inside.shared)) p (subst (λ (x : Hosting). IsServing hosted_device x.helper (plan x.home) p) (sym c.self-2.view_is) served)

pub returns-clause-kept : goal.returns-clause-kept
returns-clause-kept c = λ p image serving is.
    kept_at c.args.self.now c.has_calls.new.self p image c.has_calls.ensures.heap c.has_calls.ensures.met (c.has_calls.ensures.left.0 c.if-has_calls.false) serving is
