use Rattle.std.proofs.Common.{◌≡◌, ◌∷◌, length, sym, ap, subst, ◌∙◌, arith, rules}
use Rattle.std.proofs.lemmas.Result.{on_ok_weaker}
use Rattle.block_disk.specs.Bytes.{spliced}
use Rattle.block_disk.specs.Device.{Device}
use Rattle.atomic_sectors.specs.Left.{MakesSyncs, Reads}
use Rattle.disk_journal.proofs.PageLemmas.{again_reads, spliced_again, syncs_write}
use Rattle.disk_journal.proofs.pages.write_page_again.Goals as goal

pub returns-clause-reads : goal.returns-clause-reads
returns-clause-reads g c =
    let old = g.D.Disk.device c.args.disk.now in
    let mid = g.D.Disk.device c.read_within.new.disk in
    let new = g.D.Disk.device c.write_untorn.new.self in
    let out = c.read_within.new.out in
    let same = ap (λ (d : Device). d.now.bytes) c.in_ok-read_within.ensures.untouched in
    let kept : spliced mid.now.bytes c.args.at out ≡ mid.now.bytes =
    (λ i. spliced (same i) c.args.at (c.in_ok-read_within.ensures.ok i)) ∙ spliced_again old.now.bytes c.args.at 4096 (omega arith) ∙ sym same in
    subst (λ (d : Device). Reads (λ bytes. bytes ≡ d.now.bytes) d new) c.in_ok-read_within.ensures.untouched
    (again_reads mid new c.args.at out c.write_untorn.result kept c.write_untorn.ensures.ok c.write_untorn.ensures.err)

pub returns-clause-pending : goal.returns-clause-pending
returns-clause-pending g c =
    let out = c.read_within.new.out in
    let size : length out ≡ 4096 = search rules in
    let untouched = c.in_ok-read_within.ensures.untouched in
    on_ok_weaker c.write_untorn.result
    (λ ok. (λ i. (ok i).now.pending) ∙ (λ i. record { start = c.args.at; len = size i } ∷ (untouched i).now.pending))
    c.write_untorn.ensures.ok

pub returns-clause-syncs : goal.returns-clause-syncs
returns-clause-syncs g c =
    let new = g.D.Disk.device c.write_untorn.new.self in
    subst (λ (d : Device). MakesSyncs 0 d new) c.in_ok-read_within.ensures.untouched
    (syncs_write (g.D.Disk.device c.read_within.new.disk) new c.args.at c.read_within.new.out c.write_untorn.result c.write_untorn.ensures.ok c.write_untorn.ensures.err)
