use Rattle.std.proofs.Common.{refl}
use Rattle.host_journal.specs.declared.gathering.Gathering.{Gathering}
use Rattle.host_journal.proofs.Turning.{all_taken, gathers_then}
use Rattle.host_journal.proofs.taking.gather.Goals as goal

pub returns-then-not-take_all-clause-gathers : goal.returns-then-not-take_all-clause-gathers
returns-then-not-take_all-clause-gathers c =
    gathers_then c.args.parts.now c.make_room.new.parts c.take_all.new.parts c.make_room.ensures.gathers
    (λ heap base is.
    c.take_all.ensures.keeps heap base (c.make_room.ensures.gathers.keeps heap base is) (c.if-not-make_room.ensures.takes_on refl heap base is))
    c.take_all.ensures.below c.take_all.ensures.words c.take_all.ensures.turns

pub returns-clause-gathers : goal.returns-clause-gathers
returns-clause-gathers c =
    let g = c.take_all.new.parts in
    let new : Gathering = record { disk = g.disk; group = c.clear.new.self; moved = 0; taken = g.taken; words = g.words; turns = g.turns } in
    gathers_then c.args.parts.now c.make_room.new.parts new c.make_room.ensures.gathers
    (λ heap base is.
    let held = c.take_all.ensures.keeps heap base (c.make_room.ensures.gathers.keeps heap base is) (c.if-not-make_room.ensures.takes_on refl heap base is) in
    all_taken heap base g new held refl (c.if-not-take_all.ensures.all refl) c.clear.ensures.items refl refl refl)
    c.take_all.ensures.below c.take_all.ensures.words c.take_all.ensures.turns
