use Rattle.std.proofs.Common.{◌≡◌, true, false, arith}
use Rattle.disk_journal.proofs.LabelLemmas.{begins_with, lacks_room}
use Rattle.disk_journal.proofs.opening.find_areas.Goals as goal

pub returns-clause-label : goal.returns-clause-label
returns-clause-label g c = begins_with c.in-Some.areas c.read_within.new.out (g.D.Disk.device c.args.disk.now).now.bytes c.in-Ok.ensures.ok c.in-Some.ensures.some

pub returns-clause-unlabelled : goal.returns-clause-unlabelled
returns-clause-unlabelled g c = λ none.
    absurd (none c.in-Some.areas (omega arith) (omega arith)
    (begins_with c.in-Some.areas c.read_within.new.out (g.D.Disk.device c.args.disk.now).now.bytes c.in-Ok.ensures.ok c.in-Some.ensures.some))

pub returns-then-not-has_room-clause-unlabelled : goal.returns-then-not-has_room-clause-unlabelled
returns-then-not-has_room-clause-unlabelled g c = λ none.
    absurd (none c.in-Some.areas (omega arith) (omega arith)
    (begins_with c.in-Some.areas c.read_within.new.out (g.D.Disk.device c.args.disk.now).now.bytes c.in-Ok.ensures.ok c.in-Some.ensures.some))

pub returns-then-not-has_room-clause-why : goal.returns-then-not-has_room-clause-why
returns-then-not-has_room-clause-why g c = (
  c.in-Some.areas,
  record {
    half = omega arith;
    image = omega arith;
    label = begins_with c.in-Some.areas c.read_within.new.out (g.D.Disk.device c.args.disk.now).now.bytes c.in-Ok.ensures.ok c.in-Some.ensures.some;
  },
  lacks_room c.in-Some.areas (g.D.Disk.device c.args.disk.now).now.bytes
      (λ both. let h : false ≡ true = c.if-not-has_room.ensures.1 (omega (arith, both.0, c.size-size.ensures), both.1) in cc),
)
