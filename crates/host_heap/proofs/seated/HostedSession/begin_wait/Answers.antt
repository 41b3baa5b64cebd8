use Rattle.std.proofs.Common.{subst}
use Rattle.rtrb.specs.Ring.{sent}
use Rattle.session.specs.Sessions.{IsSessionOf, IsWaitingOf}
use Rattle.std.specs.Arc.{arc_value}
use Rattle.host_heap.proofs.Later.{after_call, after_join, same_place, waits_in_place}
use Rattle.host_heap.proofs.seated.HostedSession.begin_wait.Goals as goal

pub invariant_of-result : goal.invariant_of-result
invariant_of-result c =
    let was = c.self.invariant in
    let h = arc_value c.self.inside.shared in
    let x = c.self.inside.session in
    let w = c.in-Ok.waiting in
    let now : IsWaitingOf h w = subst (λ k. IsWaitingOf k w) c.deref.ensures c.in-Ok.ensures.seat in
    record { of = now; may = after_join h (sent c.self.inside.back) x w was.of now c.in-Ok.ensures.ring was.may; room = was.room }

pub invariant_of-session : goal.invariant_of-session
invariant_of-session c =
    let was = c.self.invariant in
    let h = arc_value c.self.inside.shared in
    let x = c.self.inside.session in
    let y = c.in-Err.session in
    let now : IsSessionOf h y = subst (λ k. IsSessionOf k y) c.deref.ensures c.in-Err.ensures.seat in
    record { of = now; may = after_call h (sent c.self.inside.back) x y was.of now c.in-Err.ensures.ring was.may; room = was.room }

pub returns-in-Ok-clause-heap : goal.returns-in-Ok-clause-heap
returns-in-Ok-clause-heap c =
    let h = arc_value c.self.inside.shared in
    let x = c.self.inside.session in
    let w = c.in-Ok.waiting in
    let now : IsWaitingOf h w = subst (λ k. IsWaitingOf k w) c.deref.ensures c.in-Ok.ensures.seat in
    waits_in_place c.args.self h x w c.self.inside.back c.self.inside.stop c.self.view_is now c.in-Ok.ensures.ring

pub returns-in-Err-clause-heap : goal.returns-in-Err-clause-heap
returns-in-Err-clause-heap c =
    let h = arc_value c.self.inside.shared in
    let x = c.self.inside.session in
    let y = c.in-Err.session in
    let now : IsSessionOf h y = subst (λ k. IsSessionOf k y) c.deref.ensures c.in-Err.ensures.seat in
    same_place c.args.self h x y c.self.inside.back c.self.inside.stop c.self.view_is now c.in-Err.ensures.ring
