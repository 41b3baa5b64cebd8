-- A session stays joined to its helper, and a helper goes on.
use Rattle.std.proofs.Common.{ℕ, zero, suc, List, [], ◌∷◌, sym, ◌∙◌, subst}
use Rattle.rtrb.specs.Ring.{SameProducer}
use Rattle.thread_rings.specs.Rings.{Receiving, Sending}
use Rattle.block_disk.specs.Device.{Device}
use Rattle.heap_model.specs.declared.ids.Lane.{Lane}
use Rattle.session.specs.Sessions.{ring_of, view_of}
use Rattle.monitor.specs.Seats.{Home}
use Rattle.thread_steps.specs.Views.{plan}
use Rattle.heap_model.specs.Past.{Past}
use Rattle.trim_helper.specs.Moves.{IsEndOf}
use Rattle.trim_helper.specs.Parts.{IsServing, Parts}
use Rattle.trim_helper.proofs.Rounds.{drained_serves, goes_drained}
use Rattle.thread_heap.specs.Joined.{HasGoneOn, IsHelping}
use Rattle.thread_heap.specs.Laws.{CallLaw, DrainLaw, EndedLaw, RingsLaw, RoundLaw, WaitLaw}

-- another value of the same end
pub same_end : (p q : Sending) (cs : List Receiving) (l : ℕ) → SameProducer p q → IsEndOf p cs l → IsEndOf q cs l
same_end p q [] l same is = is
same_end p q (c ∷ cs) zero same is = (is.0 ∙ sym same.0.0, is.1 ∙ sym same.0.1, is.2 ∙ sym same.0.2, is.3 ∙ sym same.0.3)
same_end p q (c ∷ cs) (suc l) same is = same_end p q cs l same is

pub over_call : CallLaw
over_call h c rings x y joined of same = record {
  of = of;
  holds = same.1 ∙ joined.holds;
  ring = subst (λ (l : Lane). IsEndOf (ring_of y) rings l.0) (sym same.2) (same_end (ring_of x) (ring_of y) rings _ same.0 joined.ring);
}

pub over_wait : WaitLaw
over_wait x w y begun back = (((back.0.0.0 ∙ begun.0.0.0, back.0.0.1 ∙ begun.0.0.1, back.0.0.2 ∙ begun.0.0.2, back.0.0.3 ∙ begun.0.0.3), back.0.1 ∙ begun.0.1), back.1 ∙ begun.1, back.2 ∙ begun.2)

pub over_rings : RingsLaw
over_rings h c rings later x joined same = record { of = joined.of; holds = joined.holds; ring = same.ends (ring_of x) (view_of x).lane.0 joined.ring }

pub over_ended : EndedLaw
over_ended h c rings later e ended same = record {
  seat = ended.seat;
  lane = ended.lane;
  all_sent = ended.all_sent;
  limits = ended.limits;
  held = ended.held;
  ring = same.ends e.producer e.lane.0 ended.ring;
}

-- over a call that keeps its words and rings, and after which it serves a past
helps_on : {D : Type 0} (device : D → Device) (h : Home) (x y : Parts D) (now : Past) → IsHelping device h x → HasGoneOn h x y → IsServing device y (plan h) now → IsHelping device h y
helps_on device h x y now was on serving = record {
  seat = on.seat;
  lanes = was.lanes ∙ sym on.threads;
  rings = on.rings.count ∙ was.rings;
  nobody = on.taken ∙ was.nobody;
  past = now;
  serving = serving;
}

pub goes_on : {D : Type 0} (device : D → Device) → RoundLaw device
goes_on device h p x y answer was on round = helps_on device h x y round.now was on round.serves

pub drains_on : {D : Type 0} (device : D → Device) → DrainLaw device
drains_on device h x y n was seat drained quiet =
    let on : HasGoneOn h x y = goes_drained h x y was.seat seat drained.same drained.layout drained.threads in
    let served = drained_serves device x y n (plan h) was.past drained seat quiet was.serving in
    (on, helps_on device h x y served.now was on served.serves)
