use Rattle.std.proofs.Common.{subst}
use Rattle.rtrb.specs.Ring.{sent}
use Rattle.session.specs.Sessions.{IsSessionOf, IsWaitingOf}
use Rattle.std.specs.Arc.{arc_value}
use Rattle.host_heap.proofs.Later.{after_resume, after_still, resumes_in_place, still_in_place}
use Rattle.host_heap.proofs.waiting.HostedWaiting.try_resume.Goals as goal

pub invariant_of-result : goal.invariant_of-result
invariant_of-result c =
    let was = c.self.invariant in
    let h = arc_value c.self.inside.shared in
    let x = c.self.inside.waiting in
    let y = c.in-Ok.session in
    let now : IsSessionOf h y = subst (λ k. IsSessionOf k y) c.deref.ensures c.in-Ok.ensures.seat in
    record { of = now; may = after_resume h (sent c.self.inside.back) x y was.of now c.in-Ok.ensures.ring was.may; room = was.room }

pub invariant_of-waiting : goal.invariant_of-waiting
invariant_of-waiting c =
    let was = c.self.invariant in
    let h = arc_value c.self.inside.shared in
    let x = c.self.inside.waiting in
    let w = c.in-Err.waiting in
    let now : IsWaitingOf h w = subst (λ k. IsWaitingOf k w) c.deref.ensures c.in-Err.ensures.seat in
    record { of = now; may = after_still h (sent c.self.inside.back) x w was.of now c.in-Err.ensures.ring was.may; room = was.room }

pub returns-in-Ok-clause-heap : goal.returns-in-Ok-clause-heap
returns-in-Ok-clause-heap c =
    let h = arc_value c.self.inside.shared in
    let x = c.self.inside.waiting in
    let y = c.in-Ok.session in
    let now : IsSessionOf h y = subst (λ k. IsSessionOf k y) c.deref.ensures c.in-Ok.ensures.seat in
    resumes_in_place c.args.self h x y c.self.inside.back c.self.inside.stop c.self.view_is now c.in-Ok.ensures.ring

pub returns-in-Err-clause-heap : goal.returns-in-Err-clause-heap
returns-in-Err-clause-heap c =
    let h = arc_value c.self.inside.shared in
    let x = c.self.inside.waiting in
    let w = c.in-Err.waiting in
    let now : IsWaitingOf h w = subst (λ k. IsWaitingOf k w) c.deref.ensures c.in-Err.ensures.seat in
    still_in_place c.args.self h x w c.self.inside.back c.self.inside.stop c.self.view_is now c.in-Err.ensures.ring
