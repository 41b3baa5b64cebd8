use Rattle.std.proofs.Common.{subst}
use Rattle.rtrb.specs.Ring.{sent}
use Rattle.session.specs.Sessions.{IsSessionOf}
use Rattle.std.specs.Arc.{arc_value}
use Rattle.host_heap.proofs.Later.{after_call, same_place}
use Rattle.host_heap.proofs.seated.HostedSession.take_slot.Goals as goal

pub invariant_of-session : goal.invariant_of-session
invariant_of-session c =
    let x = c.self.inside.session in
    let y = c.take-session.result.0 in
    let was = c.self.invariant in
    let h = arc_value c.self.inside.shared in
    let now : IsSessionOf h y = subst (λ k. IsSessionOf k y) c.deref.ensures c.take-session.ensures.seat in
    record { of = now; may = after_call h (sent c.self.inside.back) x y was.of now c.take-session.ensures.ring was.may; room = was.room }

pub returns-clause-heap : goal.returns-clause-heap
returns-clause-heap c =
    let x = c.self.inside.session in
    let y = c.take-session.result.0 in
    let h = arc_value c.self.inside.shared in
    let now : IsSessionOf h y = subst (λ k. IsSessionOf k y) c.deref.ensures c.take-session.ensures.seat in
    same_place c.args.self h x y c.self.inside.back c.self.inside.stop c.self.view_is now c.take-session.ensures.ring
