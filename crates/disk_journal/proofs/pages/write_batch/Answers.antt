use Rattle.std.proofs.Common.{◌*◌, ap, ◌∙◌, arith}
use Rattle.std.proofs.lemmas.List.{take_all}
use Rattle.block_disk.specs.Bytes.{spliced}
use Rattle.atomic_sectors.proofs.Calculus.{syncs_then}
use Rattle.journal_batches.specs.Areas.{half_at}
use Rattle.journal_batches.specs.Spelled.{spelled}
use Rattle.journal_batches.proofs.HalfLemmas.{length_spelled}
use Rattle.disk_journal.specs.Steps.{HasInHalf}
use Rattle.disk_journal.proofs.PageLemmas.{batched_none, batched_more, between_then}
use Rattle.disk_journal.proofs.pages.write_batch.Goals as goal

pub loop-page-init : goal.loop-page-init
loop-page-init g c = batched_none c.args.areas c.args.second (spelled c.args.stamp c.args.entries.now) (g.D.Disk.device c.args.disk.now) c.requires.room

pub loop-page-preserved : goal.loop-page-preserved
loop-page-preserved g c =
    let long = length_spelled c.args.stamp c.args.entries.now in
    batched_more c.args.areas c.args.second (spelled c.args.stamp c.args.entries.now) c.loop-page.page (g.D.Disk.device c.args.disk.now) (g.D.Disk.device c.loop-page.disk)
    (g.D.Disk.device c.write_page.new.disk) c.requires.room (omega arith) (omega arith) c.loop-page.invariant c.in_ok-write_page.ensures.ok c.write_page.ensures.between
    c.write_page.ensures.syncs c.in_ok-write_page.ensures.steady

pub returns-in_err-write_page-clause-between : goal.returns-in_err-write_page-clause-between
returns-in_err-write_page-clause-between g c =
    between_then c.args.areas (HasInHalf c.args.areas c.args.second (spelled c.args.stamp c.args.entries.now)) (g.D.Disk.device c.args.disk.now) (g.D.Disk.device c.loop-page.disk)
    (g.D.Disk.device c.write_page.new.disk) c.loop-page.invariant.between c.write_page.ensures.between

pub returns-in_err-write_page-clause-syncs : goal.returns-in_err-write_page-clause-syncs
returns-in_err-write_page-clause-syncs g c = syncs_then c.loop-page.invariant.syncs c.write_page.ensures.syncs

pub returns-clause-ok : goal.returns-clause-ok
returns-clause-ok g c =
    let content = spelled c.args.stamp c.args.entries.now in
    let long = length_spelled c.args.stamp c.args.entries.now in
    c.loop-page.invariant.bytes
    ∙ ap (spliced (g.D.Disk.device c.args.disk.now).now.bytes (half_at c.args.areas c.args.second)) (take_all (c.loop-page.page * 4096) content (omega arith))
