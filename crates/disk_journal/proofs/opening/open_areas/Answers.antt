use Rattle.std.proofs.Common.{◌⊎◌, inl, ◌∙◌, refl, sym, ap, subst, arith}
use Rattle.block_disk.specs.Device.{Device}
use Rattle.atomic_sectors.specs.Left.{MakesSyncs}
use Rattle.atomic_sectors.proofs.Calculus.{syncs_begin, syncs_same}
use Rattle.journal_batches.specs.Shown.{shown}
use Rattle.disk_journal.specs.Opened.{IsPlanned, WritesAgain}
use Rattle.disk_journal.proofs.OpeningLemmas.{chosen_here, half_read, stamp_read, unchosen_tells}
use Rattle.disk_journal.proofs.opening.open_areas.Goals as goal

pub choose-requires-clause-first : goal.choose-requires-clause-first
choose-requires-clause-first g c =
    let both = half_read c.in-Ok-read_parts.ensures.ok c.requires.room in
    (c.args.areas.half, both.0, c.requires.half)

pub choose-requires-clause-second : goal.choose-requires-clause-second
choose-requires-clause-second g c =
    let both = half_read c.in-Ok-read_parts.ensures.ok c.requires.room in
    both.1 ∙ sym both.0

pub returns-in-Err-choose-clause-why : goal.returns-in-Err-choose-clause-why
returns-in-Err-choose-clause-why g c =
    unchosen_tells c.in-Err-choose.why c.in-Ok-read_parts.ensures.ok (record { half = omega arith; image = omega arith; label = c.requires.label }) c.requires.room
    c.in-Err-choose.ensures.err

pub bring-requires-clause-planned : goal.bring-requires-clause-planned
bring-requires-clause-planned g c =
    let here = chosen_here c.in-Ok-read_parts.ensures.ok c.in-Ok-choose.ensures.ok c.requires.room in
    subst (λ (d : Device). IsPlanned c.args.areas d.now.bytes c.in-Ok-choose.choice) (sym c.in-Ok-read_parts.ensures.untouched) here.0

pub returns-clause-image : goal.returns-clause-image
returns-clause-image g c = (chosen_here c.in-Ok-read_parts.ensures.ok c.in-Ok-choose.ensures.ok c.requires.room).1

pub returns-clause-home : goal.returns-clause-home
returns-clause-home g c =
    let here = chosen_here c.in-Ok-read_parts.ensures.ok c.in-Ok-choose.ensures.ok c.requires.room in record {
      room = c.in-Ok-bring.ensures.home.cleared.rests.room;
      home = c.in-Ok-bring.ensures.home;
      image = c.in-Ok-bring.ensures.image ∙ ap (λ (d : Device). shown c.args.areas d.now.bytes) c.in-Ok-read_parts.ensures.untouched ∙ sym here.1;
    }

-- ---- what is trusted ----

pub returns-in-Err-clause-first : goal.returns-in-Err-clause-first
returns-in-Err-clause-first g c = inl (syncs_same syncs_begin c.in-Err.ensures.same)

pub returns-in-Err-choose-clause-first : goal.returns-in-Err-choose-clause-first
returns-in-Err-choose-clause-first g c = inl (syncs_same syncs_begin c.in-Ok-read_parts.ensures.same)

pub returns-in-Err-bring-clause-first : goal.returns-in-Err-bring-clause-first
returns-in-Err-bring-clause-first g c =
    let new = g.D.Disk.device c.bring.new.disk in
    subst (λ (d : Device). MakesSyncs 0 d new ⊎ WritesAgain c.args.areas d new) c.in-Ok-read_parts.ensures.untouched c.in-Err-bring.ensures.first

pub returns-clause-first : goal.returns-clause-first
returns-clause-first g c =
    let new = g.D.Disk.device c.bring.new.disk in
    subst (λ (d : Device). MakesSyncs 0 d new ⊎ WritesAgain c.args.areas d new) c.in-Ok-read_parts.ensures.untouched c.in-Ok-bring.ensures.first

pub returns-clause-again : goal.returns-clause-again
returns-clause-again g c =
    subst (λ (d : Device). WritesAgain c.args.areas d (g.D.Disk.device c.bring.new.disk)) c.in-Ok-read_parts.ensures.untouched c.in-Ok-bring.ensures.again

pub returns-clause-syncs : goal.returns-clause-syncs
returns-clause-syncs g c =
    subst (λ (d : Device). MakesSyncs 3 d (g.D.Disk.device c.bring.new.disk)) c.in-Ok-read_parts.ensures.untouched c.in-Ok-bring.ensures.syncs

pub returns-clause-steady : goal.returns-clause-steady
returns-clause-steady g c = c.in-Ok-bring.ensures.steady ∙ ap (λ (d : Device). d.failures) c.in-Ok-read_parts.ensures.untouched

pub returns-clause-after : goal.returns-clause-after
returns-clause-after g c =
    let here = chosen_here c.in-Ok-read_parts.ensures.ok c.in-Ok-choose.ensures.ok c.requires.room in
    let one = stamp_read c.in-Ok-read_parts.ensures.ok c.in-Ok-choose.ensures.one in
    record { top = c.in-Ok-choose.choice.top; latest = here.0.stamps; second = one.0; has = one.1; later = refl }
