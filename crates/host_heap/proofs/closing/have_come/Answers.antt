use Rattle.std.proofs.Common.{ℕ, ◌≡◌, ◌<◌, ◌≤◌, ◌+◌, List, get_or, length, take, ap, refl, sym, ◌∙◌, subst, arith}
use Rattle.std.proofs.lemmas.List.{take-set-le}
use Rattle.host_heap.specs.Lanes.{HasCome, IsAwaited}
use Rattle.host_heap.specs.declared.lane_end.LaneEnd.{LaneEnd}
use Rattle.host_heap.proofs.Coming.{all_same, all_twice}
use Rattle.host_heap.proofs.Ends.{all_from, each_set}
use Rattle.host_heap.proofs.Orders.{any_from}
use Rattle.host_heap.proofs.closing.have_come.Goals as goal

pub loop-place-init : goal.loop-place-init
loop-place-init c = (λ h k rings all. (all, refl), refl, λ i d low high. absurd (omega (arith, low, high)), all_same c.args.lanes.now.items, refl)

pub loop-place-preserved : goal.loop-place-preserved
loop-place-preserved c =
    let was = c.loop-place.invariant in
    let place = c.loop-place.place in
    let lanes = c.loop-place.lanes.items in
    let end : c.len-place-end.result ≡ length c.args.lanes.now.items = c.len-place-end.ensures ∙ c.args.lanes.now.ok.0 in
    let low = c.loop-place-test.true in
    let same = was.1 in
    let seen = c.has_come_at.ensures.came in (
      λ h k rings all.
          let earlier = was.0 h k rings all in
          let now = c.has_come_at.ensures.kept h k rings earlier.0 in (now.0, now.1 ∙ earlier.1),
      c.has_come_at.ensures.count ∙ was.1,
      subst (λ (ls : List LaneEnd). (i : ℕ) (d : LaneEnd) → c.args.first ≤ i → i < place + 1 → HasCome (get_or ls i d)) (sym seen.1)
          (each_set HasCome lanes c.args.first place seen.0 (omega (arith, low, end, same)) was.2 (seen.2 c.if-not-has_come_at.false)),
      all_twice c.args.lanes.now.items lanes c.has_come_at.new.lanes.items was.3 c.has_come_at.ensures.come,
      ap (λ (ls : List LaneEnd). take c.args.first ls) seen.1 ∙ take-set-le c.args.first lanes place seen.0 c.loop-place.auto.place ∙ was.4,
    )

pub returns-then-not-has_come_at-clause-kept : goal.returns-then-not-has_come_at-clause-kept
returns-then-not-has_come_at-clause-kept c = λ h k rings all.
    let earlier = c.loop-place.invariant.0 h k rings all in
    let now = c.has_come_at.ensures.kept h k rings earlier.0 in (now.0, now.1 ∙ earlier.1)

pub returns-then-not-has_come_at-clause-awaited : goal.returns-then-not-has_come_at-clause-awaited
returns-then-not-has_come_at-clause-awaited c = λ no.
    let count : length c.has_come_at.new.lanes.items ≡ length c.args.lanes.now.items = c.has_come_at.ensures.count ∙ c.loop-place.invariant.1 in
    let end : c.len-place-end.result ≡ length c.args.lanes.now.items = c.len-place-end.ensures ∙ c.args.lanes.now.ok.0 in
    let low = c.loop-place-test.true in
    any_from IsAwaited c.has_come_at.new.lanes.items c.args.first c.loop-place.place c.loop-place.auto.place (omega (arith, count, end, low))
    (λ d. c.has_come_at.ensures.awaited d c.if-not-has_come_at.true)

pub returns-clause-came : goal.returns-clause-came
returns-clause-came c = λ yes.
    let end : c.len-place-end.result ≡ length c.args.lanes.now.items = c.len-place-end.ensures ∙ c.args.lanes.now.ok.0 in
    let past = c.loop-place-test.false in
    let same = c.loop-place.invariant.1 in
    all_from HasCome c.loop-place.lanes.items c.args.first (λ i d low high. c.loop-place.invariant.2 i d low (omega (arith, high, same, end, past)))

pub returns-clause-kept : goal.returns-clause-kept
returns-clause-kept c = λ h k rings all. let now = c.loop-place.invariant.0 h k rings all in (now.0, now.1)

pub returns-then-not-has_come_at-clause-come : goal.returns-then-not-has_come_at-clause-come
returns-then-not-has_come_at-clause-come c = all_twice c.args.lanes.now.items c.loop-place.lanes.items c.has_come_at.new.lanes.items c.loop-place.invariant.3 c.has_come_at.ensures.come

pub returns-clause-come : goal.returns-clause-come
returns-clause-come c = c.loop-place.invariant.3

pub returns-then-not-has_come_at-clause-front : goal.returns-then-not-has_come_at-clause-front
returns-then-not-has_come_at-clause-front c =
    let seen = c.has_come_at.ensures.came in
    ap (λ (ls : List LaneEnd). take c.args.first ls) seen.1 ∙ take-set-le c.args.first c.loop-place.lanes.items c.loop-place.place seen.0 c.loop-place.auto.place ∙ c.loop-place.invariant.4

pub returns-clause-front : goal.returns-clause-front
returns-clause-front c = c.loop-place.invariant.4
