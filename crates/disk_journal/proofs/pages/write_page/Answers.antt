use Rattle.std.proofs.Common.{◌+◌, ◌*◌, arith}
use Rattle.journal_batches.specs.Spelled.{spelled}
use Rattle.journal_batches.proofs.HalfLemmas.{length_spelled}
use Rattle.disk_journal.proofs.PageLemmas.{half_page_stays, syncs_write}
use Rattle.disk_journal.proofs.pages.write_page.Goals as goal

pub returns-clause-between : goal.returns-clause-between
returns-clause-between g c =
    let content = spelled c.args.stamp c.args.entries.now in
    let long = length_spelled c.args.stamp c.args.entries.now in
    half_page_stays c.args.areas c.args.second content c.args.page (c.half_place.result + c.args.page * 4096) c.spell_page.new.out (omega arith)
    (g.D.Disk.device c.args.disk.now) (g.D.Disk.device c.write_untorn.new.self) c.write_untorn.result c.spell_page.ensures (omega arith) (omega arith)
    c.write_untorn.ensures.ok c.write_untorn.ensures.err

pub returns-clause-syncs : goal.returns-clause-syncs
returns-clause-syncs g c =
    syncs_write (g.D.Disk.device c.args.disk.now) (g.D.Disk.device c.write_untorn.new.self) (c.half_place.result + c.args.page * 4096) c.spell_page.new.out
    c.write_untorn.result c.write_untorn.ensures.ok c.write_untorn.ensures.err
