use Rattle.std.proofs.Common.{◌≡◌, ◌∙◌, ◌++◌, [], Ok, Err, false, true, refl, sym, ap, subst, arith}
use Rattle.heap_model.specs.declared.store_error.StoreError.TheVariants.{Fault}
use Rattle.monitor.specs.Seats.{Helping}
use Rattle.trim_helper.specs.Calls.{DrainsUpTo, MayBePublished}
use Rattle.trim_helper.specs.Heard.{HasSeen, Hears}
use Rattle.trim_helper.specs.Parts.{taking_of}
use Rattle.trim_helper.proofs.HeardRings.{drained_parts, goes_on_heard, round_heard, rounds_heard}
use Rattle.trim_helper.proofs.Rounding.{passed_on}
use Rattle.trim_helper.proofs.Noting.{noted_same, noted_then}
use Rattle.trim_helper.proofs.RingMoves.{same_refl}
use Rattle.trim_helper.proofs.Rounds.{goes_on_drained, parts_from, rounds_done, rounds_failed, rounds_quiet, rounds_refused, same_serves, whole_still}
use Rattle.trim_helper.proofs.helper.Helper.settle.Goals as goal

-- nothing was heard
pub returns-in-Err-clause-settles : goal.returns-in-Err-clause-settles
returns-in-Err-clause-settles g c = λ s p serving. rounds_failed g.D.Disk.device s p c.args.self.now serving c.drain_within.new.self c.args.most c.in-Err.reason c.in-Err.ensures

pub returns-in-Err-clause-noted : goal.returns-in-Err-clause-noted
returns-in-Err-clause-noted g c = noted_same c.args.self.now.seat c.drain_within.new.self.seat c.in-Err.ensures.seat

pub returns-in-Err-clause-goes_on : goal.returns-in-Err-clause-goes_on
returns-in-Err-clause-goes_on g c = goes_on_drained g.D.Disk.device c.args.most c.args.shared.now c.args.self.now c.drain_within.new.self _ c.requires.seat c.in-Err.ensures

pub returns-in-Err-clause-seen : goal.returns-in-Err-clause-seen
returns-in-Err-clause-seen g c = λ runs. absurd (let no : false ≡ true = sym runs ∙ c.in-Err.ensures.failed.1 in cc)

pub returns-in-Err-clause-later : goal.returns-in-Err-clause-later
returns-in-Err-clause-later g c = ([], ap (λ (k : Helping). k.view.history) c.in-Err.ensures.seat)

pub hear-requires : goal.hear-requires
hear-requires g c = record { seat = (goes_on_drained g.D.Disk.device c.args.most c.args.shared.now c.args.self.now c.drain_within.new.self _ c.requires.seat c.in-Ok.ensures).seat }

-- nothing is to be made durable
pub returns-then-self-clause-settles : goal.returns-then-self-clause-settles
returns-then-self-clause-settles g c = λ s p serving. let hears = c.hear.ensures in
    round_heard g.D.Disk.device c.args.shared.now c.drain_within.new.self c.hear.new.self hears c.args.most s p c.args.self.now (Ok c.in-Ok.count)
    (rounds_quiet g.D.Disk.device s p c.args.self.now serving c.drain_within.new.self c.args.most c.in-Ok.count c.in-Ok.ensures (sym hears.settled ∙ ap (λ x. x.is_settled) (sym c.self.view_is) ∙ c.if-self.true))

pub returns-then-self-clause-shares : goal.returns-then-self-clause-shares
returns-then-self-clause-shares g c = λ at. record { drained = taking_of c.drain_within.new.self; shares = c.in-Ok.ensures.rings.shares at; received = c.hear.ensures.records.received; waiting = c.hear.ensures.waiting }

pub returns-then-self-clause-noted : goal.returns-then-self-clause-noted
returns-then-self-clause-noted g c = noted_then c.args.self.now.seat c.drain_within.new.self.seat c.hear.new.self.seat (noted_same c.args.self.now.seat c.drain_within.new.self.seat c.in-Ok.ensures.seat) c.hear.ensures.noted

pub returns-then-self-clause-ready : goal.returns-then-self-clause-ready
returns-then-self-clause-ready g c =
    let x = c.self.inside in
    let y = parts_from x.store x.rings.items x.waiting x.is_settled x.seat in
    let whole = c.self.invariant in
    let was = whole.serving in
    subst (λ k. MayBePublished g.D.Disk.device k) c.self.view_is (whole.setting, whole.past, was, record { running = was.running c.if-self.true; settled = was.settled c.if-self.true; trimmed = was.trimmed c.if-self.true })

pub returns-then-self-clause-goes_on : goal.returns-then-self-clause-goes_on
returns-then-self-clause-goes_on g c = goes_on_heard g.D.Disk.device c.args.shared.now c.drain_within.new.self c.hear.new.self c.hear.ensures c.args.self.now (goes_on_drained g.D.Disk.device c.args.most c.args.shared.now c.args.self.now c.drain_within.new.self _ c.requires.seat c.in-Ok.ensures)

pub returns-then-self-clause-seen : goal.returns-then-self-clause-seen
returns-then-self-clause-seen g c = λ runs. c.hear.ensures.seen

pub returns-then-self-clause-later : goal.returns-then-self-clause-later
returns-then-self-clause-later g c = let goes = c.hear.ensures.goes_on in (goes.0, goes.1 ∙ ap (λ (k : Helping). goes.0 ++ k.view.history) c.in-Ok.ensures.seat)

-- what was drained is made durable, as far as that goes

pub returns-in-Err-make_durable-clause-settles : goal.returns-in-Err-make_durable-clause-settles
returns-in-Err-make_durable-clause-settles g c = λ s p serving.
    let x = c.self.inside in
    let d = c.drain_within.new.self in
    let y = parts_from x.store x.rings.items x.waiting x.is_settled x.seat in
    let hears : Hears c.args.shared.now d y = subst (λ k. Hears c.args.shared.now d k) (sym c.self.view_is) c.hear.ensures in
    let z = parts_from x.store d.rings x.waiting x.is_settled d.seat in
    let drains = subst (λ k. DrainsUpTo g.D.Disk.device c.args.most c.args.self.now k (Ok c.in-Ok.count)) (drained_parts g.D.Disk.device c.args.shared.now d y hears) c.in-Ok.ensures in
    let w = c.make_durable.new.store in
    rounds_heard g.D.Disk.device (parts_from w d.rings x.waiting x.is_settled d.seat) x.rings.items x.seat hears.records hears.noted c.args.most s p c.args.self.now _
    (rounds_refused g.D.Disk.device s p c.args.self.now serving z c.args.most c.in-Ok.count drains w c.if-self.false c.make_durable.ensures.threads c.in-Err-make_durable.reason c.in-Err-make_durable.ensures.settles c.make_durable.ensures.still c.make_durable.ensures.takes
    (passed_on _ _ _ c.make_durable.result (Err c.in-Err-make_durable.reason) Fault c.in-Err-make_durable.reason c.in-Err-make_durable.is refl (omega arith) c.make_durable.ensures.cause))

pub returns-in-Err-make_durable-clause-noted : goal.returns-in-Err-make_durable-clause-noted
returns-in-Err-make_durable-clause-noted g c =
    let x = c.self.inside in
    let d = c.drain_within.new.self in
    let hears : Hears c.args.shared.now d (parts_from x.store x.rings.items x.waiting x.is_settled x.seat) = subst (λ k. Hears c.args.shared.now d k) (sym c.self.view_is) c.hear.ensures in
    noted_then c.args.self.now.seat d.seat x.seat (noted_same c.args.self.now.seat d.seat c.in-Ok.ensures.seat) hears.noted

pub returns-in-Err-make_durable-clause-goes_on : goal.returns-in-Err-make_durable-clause-goes_on
returns-in-Err-make_durable-clause-goes_on g c =
    let x = c.self.inside in
    let d = c.drain_within.new.self in
    let y = parts_from x.store x.rings.items x.waiting x.is_settled x.seat in
    let hears = subst (λ k. Hears c.args.shared.now d k) (sym c.self.view_is) c.hear.ensures in
    let on = goes_on_heard g.D.Disk.device c.args.shared.now d y hears c.args.self.now (goes_on_drained g.D.Disk.device c.args.most c.args.shared.now c.args.self.now d _ c.requires.seat c.in-Ok.ensures) in
    record { seat = on.seat; taken = on.taken; rings = on.rings; layout = c.make_durable.ensures.layout ∙ on.layout; threads = c.make_durable.ensures.threads ∙ on.threads }

pub returns-in-Err-make_durable-clause-seen : goal.returns-in-Err-make_durable-clause-seen
returns-in-Err-make_durable-clause-seen g c = λ runs.
    let x = c.self.inside in
    let seen = subst (λ k. HasSeen c.args.shared.now k) (sym c.self.view_is) c.hear.ensures.seen in
    record { legal = seen.legal; logs = seen.logs }

pub returns-in-Err-make_durable-clause-later : goal.returns-in-Err-make_durable-clause-later
returns-in-Err-make_durable-clause-later g c = let goes = c.hear.ensures.goes_on in
    (goes.0, ap (λ x. x.seat.view.history) c.self.view_is ∙ goes.1 ∙ ap (λ (k : Helping). goes.0 ++ k.view.history) c.in-Ok.ensures.seat)

-- what was drained is durable

pub returns-clause-settles : goal.returns-clause-settles
returns-clause-settles g c = λ s p serving.
    let x = c.self.inside in
    let d = c.drain_within.new.self in
    let y = parts_from x.store x.rings.items x.waiting x.is_settled x.seat in
    let hears : Hears c.args.shared.now d y = subst (λ k. Hears c.args.shared.now d k) (sym c.self.view_is) c.hear.ensures in
    let z = parts_from x.store d.rings x.waiting x.is_settled d.seat in
    let drains = subst (λ k. DrainsUpTo g.D.Disk.device c.args.most c.args.self.now k (Ok c.in-Ok.count)) (drained_parts g.D.Disk.device c.args.shared.now d y hears) c.in-Ok.ensures in
    let w = c.make_durable.new.store in
    rounds_heard g.D.Disk.device (parts_from w d.rings x.waiting x.is_settled d.seat) x.rings.items x.seat hears.records hears.noted c.args.most s p c.args.self.now (Ok c.in-Ok.count)
    (rounds_done g.D.Disk.device s p c.args.self.now serving z c.args.most c.in-Ok.count drains w c.if-self.false c.make_durable.ensures.threads c.in_default.ensures.running c.in_default.ensures.settles c.make_durable.ensures.takes
    c.make_durable.ensures.cause.later)

pub returns-clause-shares : goal.returns-clause-shares
returns-clause-shares g c = λ at.
    let x = c.self.inside in
    let d = c.drain_within.new.self in
    let hears : Hears c.args.shared.now d (parts_from x.store x.rings.items x.waiting x.is_settled x.seat) = subst (λ k. Hears c.args.shared.now d k) (sym c.self.view_is) c.hear.ensures in
    record { drained = taking_of d; shares = c.in-Ok.ensures.rings.shares at; received = hears.records.received; waiting = hears.waiting }

pub returns-clause-ready : goal.returns-clause-ready
returns-clause-ready g c =
    let x = c.self.inside in
    let z = parts_from x.store x.rings.items x.waiting x.is_settled x.seat in
    let whole = c.self.invariant in
    let both = c.in_default.ensures.settles whole.setting whole.past whole.serving.taken.has in
    let h = both.settles.same in (
      whole.setting,
      h.now,
      same_serves g.D.Disk.device z c.make_durable.new.store whole.setting whole.past c.if-self.false c.make_durable.ensures.threads whole.serving h,
      record { running = c.in_default.ensures.running; settled = both.settles.settled; trimmed = both.trimmed },
    )

pub returns-clause-noted : goal.returns-clause-noted
returns-clause-noted g c =
    let x = c.self.inside in
    let d = c.drain_within.new.self in
    let hears : Hears c.args.shared.now d (parts_from x.store x.rings.items x.waiting x.is_settled x.seat) = subst (λ k. Hears c.args.shared.now d k) (sym c.self.view_is) c.hear.ensures in
    noted_then c.args.self.now.seat d.seat x.seat (noted_same c.args.self.now.seat d.seat c.in-Ok.ensures.seat) hears.noted

pub returns-clause-goes_on : goal.returns-clause-goes_on
returns-clause-goes_on g c =
    let x = c.self.inside in
    let d = c.drain_within.new.self in
    let y = parts_from x.store x.rings.items x.waiting x.is_settled x.seat in
    let hears = subst (λ k. Hears c.args.shared.now d k) (sym c.self.view_is) c.hear.ensures in
    let on = goes_on_heard g.D.Disk.device c.args.shared.now d y hears c.args.self.now (goes_on_drained g.D.Disk.device c.args.most c.args.shared.now c.args.self.now d _ c.requires.seat c.in-Ok.ensures) in
    record { seat = on.seat; taken = on.taken; rings = on.rings; layout = c.make_durable.ensures.layout ∙ on.layout; threads = c.make_durable.ensures.threads ∙ on.threads }

pub returns-clause-seen : goal.returns-clause-seen
returns-clause-seen g c = λ runs.
    let x = c.self.inside in
    let seen = subst (λ k. HasSeen c.args.shared.now k) (sym c.self.view_is) c.hear.ensures.seen in
    record { legal = seen.legal; logs = seen.logs }

pub returns-clause-later : goal.returns-clause-later
returns-clause-later g c = let goes = c.hear.ensures.goes_on in
    (goes.0, ap (λ x. x.seat.view.history) c.self.view_is ∙ goes.1 ∙ ap (λ (k : Helping). goes.0 ++ k.view.history) c.in-Ok.ensures.seat)

pub invariant_of-self : goal.invariant_of-self
invariant_of-self g c =
    let x = c.self.inside in
    let z = parts_from x.store x.rings.items x.waiting x.is_settled x.seat in
    let whole = c.self.invariant in
    let w = c.make_durable.new.store in
    let h = (c.in-Err-make_durable.ensures.settles whole.setting whole.past whole.serving.taken.has).settles.same in
    whole_still g.D.Disk.device z (parts_from w x.rings.items x.waiting x.is_settled x.seat) whole (same_refl x.rings.items) whole.sees c.make_durable.ensures.threads h.now
    (same_serves g.D.Disk.device z w whole.setting whole.past c.if-self.false c.make_durable.ensures.threads whole.serving h)

pub invariant_of-self-2 : goal.invariant_of-self-2
invariant_of-self-2 g c =
    let x = c.self.inside in
    let z = parts_from x.store x.rings.items x.waiting x.is_settled x.seat in
    let whole = c.self.invariant in
    let w = c.make_durable.new.store in
    let h = (c.in_default.ensures.settles whole.setting whole.past whole.serving.taken.has).settles.same in
    whole_still g.D.Disk.device z (parts_from w x.rings.items x.waiting x.is_settled x.seat) whole (same_refl x.rings.items) whole.sees c.make_durable.ensures.threads h.now
    (same_serves g.D.Disk.device z w whole.setting whole.past c.if-self.false c.make_durable.ensures.threads whole.serving h)
