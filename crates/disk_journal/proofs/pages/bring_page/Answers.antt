use Rattle.std.proofs.Common.{◌≡◌, ◌+◌, ◌*◌, List, ℕ, length, sym, ap, subst, ◌∙◌, arith, rules}
use Rattle.block_disk.specs.Bytes.{part}
use Rattle.block_disk.specs.Device.{Device}
use Rattle.block_disk.proofs.Bytes.{length_part}
use Rattle.atomic_sectors.specs.Left.{MakesSyncs}
use Rattle.journal_batches.specs.Areas.{home_of, image_at, image_bytes, with_home}
use Rattle.journal_batches.specs.Entries.{replayed}
use Rattle.disk_journal.specs.Steps.{HasHome, StaysBetween}
use Rattle.disk_journal.proofs.PageLemmas.{home_again, page_read, page_stays, page_written, run_beyond, syncs_write}
use Rattle.disk_journal.proofs.pages.bring_page.Given.{Over}
use Rattle.disk_journal.proofs.pages.bring_page.Goals as goal

pub returns-then-page-areas-clause-ok : goal.returns-then-page-areas-clause-ok
returns-then-page-areas-clause-ok g c =
    let bytes = (g.D.Disk.device c.args.disk.now).now.bytes in
    let home = home_of c.args.areas bytes in
    let long : length home ≡ image_bytes c.args.areas = length_part (image_at c.args.areas) (image_bytes c.args.areas) bytes c.requires.room in
    sym (
    ap (λ (image : List ℕ). with_home c.args.areas image bytes)
    (run_beyond c.args.page c.args.run.now c.requires.places c.requires.page home (omega arith))
    ∙ home_again c.args.areas bytes c.requires.room
    )

-- the page that is written has the words
content : (g : Over) (c : goal.After-write_untorn g)
    → c.put_words.new.out ≡ part (c.args.page * 4096) 4096 (replayed c.args.run.now (home_of c.args.areas (g.D.Disk.device c.args.disk.now).now.bytes))
content g c =
    let bytes = (g.D.Disk.device c.args.disk.now).now.bytes in
    let home = home_of c.args.areas bytes in
    let out = c.read_within.new.out in
    let long : length home ≡ image_bytes c.args.areas = length_part (image_at c.args.areas) (image_bytes c.args.areas) bytes c.requires.room in
    let size : length out ≡ 4096 = search rules in
    let read : out ≡ part (c.args.page * 4096) (length out) home =
    page_read c.args.areas bytes out c.args.page (c.image_place.result + c.args.page * 4096) (omega arith) (omega arith) size
    (c.in_ok-read_within.ensures.ok ∙ ap (λ (n : ℕ). part (c.image_place.result + c.args.page * 4096) n bytes) (sym size)) in
    c.put_words.ensures home (omega arith) read ∙ ap (λ (n : ℕ). part (c.args.page * 4096) n (replayed c.args.run.now home)) size

pub returns-clause-ok : goal.returns-clause-ok
returns-clause-ok g c =
    page_written c.args.page c.args.run.now c.requires.places c.requires.page c.args.areas (g.D.Disk.device c.args.disk.now).now.bytes c.requires.room (omega arith) c.put_words.new.out
    (content g c) (g.D.Disk.device c.read_within.new.disk) (g.D.Disk.device c.write_untorn.new.self) (c.image_place.result + c.args.page * 4096)
    (λ i. (c.in_ok-read_within.ensures.untouched i).now.bytes) (omega arith) c.write_untorn.result c.write_untorn.ensures.ok

pub returns-clause-between : goal.returns-clause-between
returns-clause-between g c = λ image size own.
    subst (λ (d : Device). StaysBetween c.args.areas (HasHome c.args.areas image) d (g.D.Disk.device c.write_untorn.new.self)) c.in_ok-read_within.ensures.untouched
    (page_stays c.args.page c.args.run.now c.requires.places c.requires.page c.args.areas (g.D.Disk.device c.args.disk.now).now.bytes c.requires.room (omega arith) c.put_words.new.out
    (content g c) (g.D.Disk.device c.read_within.new.disk) (g.D.Disk.device c.write_untorn.new.self) (c.image_place.result + c.args.page * 4096)
    (λ i. (c.in_ok-read_within.ensures.untouched i).now.bytes) (omega arith) c.write_untorn.result c.write_untorn.ensures.ok c.write_untorn.ensures.err image size own)

pub returns-clause-syncs : goal.returns-clause-syncs
returns-clause-syncs g c =
    let new = g.D.Disk.device c.write_untorn.new.self in
    subst (λ (d : Device). MakesSyncs 0 d new) c.in_ok-read_within.ensures.untouched
    (syncs_write (g.D.Disk.device c.read_within.new.disk) new (c.image_place.result + c.args.page * 4096) c.put_words.new.out
    c.write_untorn.result c.write_untorn.ensures.ok c.write_untorn.ensures.err)
