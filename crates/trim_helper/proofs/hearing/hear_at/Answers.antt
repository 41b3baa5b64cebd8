use Rattle.std.proofs.Common.{◌≡◌, ℕ, suc, ◌+◌, List, slice_index_or, slice_set, refl, sym, ap, ◌∙◌, subst, arith}
use Rattle.heap_model.specs.declared.event.Event.{Event}
use Rattle.monitor.specs.declared.view.View.{View}
use Rattle.monitor.specs.Views.{GoesOn, HasHeard, lane_of}
use Rattle.trim_helper.specs.Seen.{AreHeard}
use Rattle.trim_helper.proofs.HeardRings.{kept_set}
use Rattle.trim_helper.proofs.Seeing.{heard_more, heard_none, heard_one, sees_at, sees_later, sees_set, witness_of}
use Rattle.trim_helper.proofs.hearing.hear_at.Goals as goal

pub hear-requires-clause-witness : goal.hear-requires-clause-witness
hear-requires-clause-witness c = let h = c.args.seat.now in let of = c.requires.seat.of in let d = c.index-rings-lane.result in
    witness_of c.args.shared.now h (0 + c.args.lane) (slice_index_or c.args.rings.now c.args.lane d) c.in-Some.witness of.0 of.1 (sees_at h 0 c.args.lane c.args.rings.now d c.requires.ring c.requires.sees) c.in-Some.ensures.told.1

pub returns-in-Some-clause-sees : goal.returns-in-Some-clause-sees
returns-in-Some-clause-sees c =
    let h = c.args.seat.now in
    let k = c.catch_up.new.helper in
    let w = c.in-Some.witness in
    let cs = c.args.rings.now in
    let d = c.index-rings-lane.result in
    let now = c.take_witness.new.self in
    let law = c.sent_law.ensures in
    let of = c.requires.seat.of in
    let at = c.catch_up.ensures.helper.0 in
    let table : k.table ≡ h.table = at.0 ∙ sym of.0 in
    let plan : k.view.plan ≡ h.view.plan = at.1 ∙ sym of.1 in
    let view : c.hear.new.helper.view ≡ _ = c.hear.ensures.helper.1 in
    let goes : GoesOn k.view.history h.view.history = subst (λ (z : List (ℕ × Event)). GoesOn k.view.history z) (ap (λ (z : View). z.history) view) c.catch_up.ensures.goes_on in
    let heard = subst (λ (z : View). HasHeard k.view.history z) view c.catch_up.ensures.heard 0 (record { lane = lane_of w.view; events = w.view.events }) refl in
    let one = sees_at h 0 c.args.lane cs d c.requires.ring c.requires.sees in
    sees_set k 0 c.args.lane cs now
    (heard_one law h k (0 + c.args.lane) (slice_index_or cs c.args.lane d) now w table plan one c.in-Some.ensures.told.1 c.take_witness.ensures.whose c.take_witness.ensures.received.0 heard)
    (sees_later law h k table plan goes 0 cs c.requires.sees)

pub returns-in-Some-clause-heard : goal.returns-in-Some-clause-heard
returns-in-Some-clause-heard c = let next : suc c.args.lane ≡ c.args.lane + 1 = omega arith in subst (λ (n : ℕ). AreHeard n (slice_set c.args.rings.now c.args.lane c.take_witness.new.self)) next
    (heard_more c.args.lane c.args.rings.now c.take_witness.new.self c.index-rings-lane.result c.requires.ring c.take_witness.ensures.left c.requires.heard)

pub returns-in-Some-clause-records : goal.returns-in-Some-clause-records
returns-in-Some-clause-records c = let e = c.take_witness.ensures in kept_set c.args.rings.now c.args.lane c.take_witness.new.self c.index-rings-lane.result c.requires.ring e.ring e.received.0 e.received.1

pub returns-in_default-clause-sees : goal.returns-in_default-clause-sees
returns-in_default-clause-sees c =
    let h = c.args.seat.now in
    let cs = c.args.rings.now in
    let d = c.index-rings-lane.result in
    let now = c.take_witness.new.self in
    sees_set h 0 c.args.lane cs now
    (heard_none h (0 + c.args.lane) (slice_index_or cs c.args.lane d) now c.take_witness.ensures.whose c.take_witness.ensures.received.0 c.in_default.ensures.told (sees_at h 0 c.args.lane cs d c.requires.ring c.requires.sees))
    c.requires.sees

pub returns-in_default-clause-heard : goal.returns-in_default-clause-heard
returns-in_default-clause-heard c = let next : suc c.args.lane ≡ c.args.lane + 1 = omega arith in subst (λ (n : ℕ). AreHeard n (slice_set c.args.rings.now c.args.lane c.take_witness.new.self)) next
    (heard_more c.args.lane c.args.rings.now c.take_witness.new.self c.index-rings-lane.result c.requires.ring c.take_witness.ensures.left c.requires.heard)

pub returns-in_default-clause-records : goal.returns-in_default-clause-records
returns-in_default-clause-records c = let e = c.take_witness.ensures in kept_set c.args.rings.now c.args.lane c.take_witness.new.self c.index-rings-lane.result c.requires.ring e.ring e.received.0 e.received.1
