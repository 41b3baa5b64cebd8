use Rattle.std.proofs.Common.{◌≡◌, ◌≤◌, true, ap, length, refl, arith}
use Rattle.atomic_sectors.proofs.Calculus.{syncs_then}
use Rattle.disk_journal.proofs.OpeningLemmas.{again_whole_now}
use Rattle.disk_journal.proofs.PageLemmas.{again_then, half_in_room, reads_now}
use Rattle.disk_journal.proofs.opening.write_trusted.Goals as goal
use Rattle.disk_journal.proofs.opening.write_trusted.Goals.{then-choice, else-choice}

pub write_again-requires-2 : goal.write_again-requires-2
write_again-requires-2 g c =
    let ends = half_in_room c.args.areas c.args.choice.now.second in
    omega (arith, ends, c.requires.room, c.requires.planned.fits, c.half_place.ensures, ap length (reads_now c.write_again.ensures.reads refl))

pub returns-in_err-write_again-2-clause-reads : goal.returns-in_err-write_again-2-clause-reads
returns-in_err-write_again-2-clause-reads g c = again_then c.write_again.ensures.reads c.write_again-2.ensures.reads

pub returns-in_err-write_again-2-clause-syncs : goal.returns-in_err-write_again-2-clause-syncs
returns-in_err-write_again-2-clause-syncs g c = syncs_then c.write_again.ensures.syncs c.write_again-2.ensures.syncs

pub write_again-requires-3 : goal.write_again-requires-3
write_again-requires-3 g c =
    let few : c.if-choice.pages ≤ c.args.areas.image =
    elim c.if-choice.branch [ then-choice w ↦ omega (arith, w.pages-is) | else-choice w ↦ omega (arith, w.pages-is) ] in
    let reads = again_then c.write_again.ensures.reads c.write_again-2.ensures.reads in record {
      fits = omega (arith, few, c.requires.room, c.image_place.ensures, ap length (reads_now reads refl));
    }

pub returns-clause-reads : goal.returns-clause-reads
returns-clause-reads g c =
    again_then (again_then c.write_again.ensures.reads c.write_again-2.ensures.reads) c.write_again-3.ensures.reads

pub returns-clause-syncs : goal.returns-clause-syncs
returns-clause-syncs g c = syncs_then (syncs_then c.write_again.ensures.syncs c.write_again-2.ensures.syncs) c.write_again-3.ensures.syncs

pub returns-clause-again : goal.returns-clause-again
returns-clause-again g c =
    let all : c.args.choice.now.is_empty ≡ true → c.if-choice.pages ≡ c.args.areas.image =
    elim c.if-choice.branch [ then-choice w ↦ λ empty. w.pages-is | else-choice w ↦ λ empty. absurd (cc (empty, w.if-choice.false)) ] in
    again_whole_now (g.D.Disk.device c.write_again.new.disk) (g.D.Disk.device c.write_again-2.new.disk) c.write_again-3.result c.half_place.result
    c.image_place.result c.if-choice.pages c.requires.planned c.half_place.ensures c.image_place.ensures all
    (again_then (again_then c.write_again.ensures.reads c.write_again-2.ensures.reads) c.write_again-3.ensures.reads)
    (syncs_then (syncs_then c.write_again.ensures.syncs c.write_again-2.ensures.syncs) c.write_again-3.ensures.syncs)
    c.in_ok-write_again.ensures.pending c.in_ok-write_again-2.ensures.others c.in_ok-write_again-2.ensures.pending
    c.write_again-3.ensures.others c.write_again-3.ensures.pending
