use Rattle.std.proofs.Common.{refl, sym, ap, ◌∙◌}
use Rattle.store_image.specs.declared.committed.Committed.{Committed}
use Rattle.heap_model.specs.Past.{no_past}
use Rattle.durable.proofs.Adopting.{same_setting, adopts, adopts_one}
use Rattle.durable.proofs.store.Store.adopt.Goals as goal

pub invariant_of-result : goal.invariant_of-result
invariant_of-result g c =
    let r = c.into_parts-disk.result in
    let some = adopts_one r.layout (g.D.Disk.device r.disk) r.guards.items r.slot r.sequence r.heap.items c.args.last c.into_parts-disk.ensures.recovered c.requires.last
    c.empty.result c.in-Ok.applied c.in-Ok.sections c.empty.ensures c.in-Ok.ensures.lanes.0 c.in-Ok.ensures.lanes.1 c.in-Ok.ensures.starts
    c.in-Ok.ensures.logged c.in-Ok.ensures.logged_lanes.0 c.in-Ok.ensures.logged_lanes.1
    (λ s set. c.in-Ok.ensures.remembers s (same_setting r.layout r.layout r.guards.items c.deref.result.now r.heap.items c.deref-2.result.now c.args.last s refl (sym c.deref.ensures.value) (sym c.deref-2.ensures.value) set)) in
    (some.0, no_past, some.1)

pub returns-in-Ok-clause-past : goal.returns-in-Ok-clause-past
returns-in-Ok-clause-past g c = λ s set.
    let r = c.into_parts-disk.result in
    adopts r.layout (g.D.Disk.device r.disk) r.guards.items r.slot r.sequence r.heap.items c.args.last c.into_parts-disk.ensures.recovered c.requires.last
    c.empty.result c.in-Ok.applied c.in-Ok.sections c.empty.ensures c.in-Ok.ensures.lanes.0 c.in-Ok.ensures.lanes.1 c.in-Ok.ensures.starts
    c.in-Ok.ensures.logged c.in-Ok.ensures.logged_lanes.0 c.in-Ok.ensures.logged_lanes.1
    (λ s set. c.in-Ok.ensures.remembers s (same_setting r.layout r.layout r.guards.items c.deref.result.now r.heap.items c.deref-2.result.now c.args.last s refl (sym c.deref.ensures.value) (sym c.deref-2.ensures.value) set))
    s (same_setting c.args.recovered.layout r.layout c.args.recovered.guards r.guards.items c.args.recovered.heap r.heap.items c.args.last s
    (sym c.into_parts-disk.ensures.layout) (sym c.into_parts-disk.ensures.guards) (sym c.into_parts-disk.ensures.heap) set)

pub returns-in-Ok-clause-sequence : goal.returns-in-Ok-clause-sequence
returns-in-Ok-clause-sequence g c = ap (λ (k : Committed). k.sequence) c.empty.ensures ∙ c.into_parts-disk.ensures.sequence
