use Rattle.std.proofs.Common.{List, length, sym, ap, arith}
use Rattle.heap_model.specs.Past.{no_past}
use Rattle.durable.proofs.Adopting.{same_setting}
use Rattle.store_round_image.specs.declared.cells.HomeValue.{HomeValue}
use Rattle.store_rounds.proofs.Adopting.{adopts, adopts_one, new_of}
use Rattle.store_rounds.proofs.store.RoundStore.adopt.Goals as goal

pub invariant_of-result : goal.invariant_of-result
invariant_of-result g c =
    let r = c.into_parts-disk.result in
    let one = adopts_one (new_of r.layout c.args.threads (g.D.Disk.device r.disk) r.guards.items r.slot r.sequence r.heap.items c.args.last c.empty.result c.in-Ok.memories.applied c.in-Ok.memories.sections c.in-Ok.memories.rounds
    c.in-Ok.lists.guards.items c.in-Ok.lists.pending.items c.args.recovered.layout c.deref.result.now c.deref-2.result.now c.into_parts-disk.ensures.layout c.deref.ensures.value c.deref-2.ensures.value c.into_parts-disk.ensures.recovered
    c.requires.last c.requires.some c.requires.within c.requires.most c.empty.ensures c.in-Ok.ensures.applied c.in-Ok.ensures.sections c.in-Ok.ensures.rounds c.in-Ok.ensures.fits c.in-Ok.ensures.guards c.in-Ok.ensures.none) in (
      record {
        listed = omega (arith, ap (λ (cells : List HomeValue). length cells) c.in-Ok.ensures.none);
        pending = c.in-Ok.ensures.room.pending;
        cells = c.in-Ok.ensures.room.cells;
        helper = c.in-Ok.ensures.room.helper;
      },
      (one.0, no_past, one.1),
    )

pub returns-in-Ok-clause-past : goal.returns-in-Ok-clause-past
returns-in-Ok-clause-past g c = λ s set.
    let r = c.into_parts-disk.result in
    adopts (new_of r.layout c.args.threads (g.D.Disk.device r.disk) r.guards.items r.slot r.sequence r.heap.items c.args.last c.empty.result c.in-Ok.memories.applied c.in-Ok.memories.sections c.in-Ok.memories.rounds
    c.in-Ok.lists.guards.items c.in-Ok.lists.pending.items c.args.recovered.layout c.deref.result.now c.deref-2.result.now c.into_parts-disk.ensures.layout c.deref.ensures.value c.deref-2.ensures.value c.into_parts-disk.ensures.recovered
    c.requires.last c.requires.some c.requires.within c.requires.most c.empty.ensures c.in-Ok.ensures.applied c.in-Ok.ensures.sections c.in-Ok.ensures.rounds c.in-Ok.ensures.fits c.in-Ok.ensures.guards c.in-Ok.ensures.none)
    s (same_setting c.args.recovered.layout r.layout c.args.recovered.guards r.guards.items c.args.recovered.heap r.heap.items c.args.last s
    (sym c.into_parts-disk.ensures.layout) (sym c.into_parts-disk.ensures.guards) (sym c.into_parts-disk.ensures.heap) set)
