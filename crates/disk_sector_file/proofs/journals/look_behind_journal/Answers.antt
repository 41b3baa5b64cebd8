use Rattle.std.proofs.Common.{subst, sym}
use Rattle.block_disk.specs.Device.{Device}
use Rattle.disk_file.specs.Backing.{GivesPart}
use Rattle.disk_sector_file.proofs.JournalLemmas.{looked}
use Rattle.disk_sector_file.proofs.journals.look_behind_journal.Goals as goal

pub returns-in-Ok-open : goal.returns-in-Ok-open
returns-in-Ok-open g c =
    let file = g.F.BackingFile.holds c.args.file in
    let count = c.room_of_journal.result in
    looked file count c.holding.result.now.bytes c.in-Ok-open.disk
    (subst (λ (d : Device). GivesPart 0 count d.now.bytes file) (sym c.holding.ensures) c.in-Ok.ensures)
    c.in-Ok-open.ensures.label c.in-Ok-open.ensures.room c.in-Ok-open.ensures.ok
