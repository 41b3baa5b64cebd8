use Rattle.disk_sector_file.proofs.JournalLemmas.{opened}
use Rattle.disk_sector_file.proofs.journals.open_journal.Goals as goal

pub returns-in-Ok-open-clause-ok : goal.returns-in-Ok-open-clause-ok
returns-in-Ok-open-clause-ok g c =
    opened (g.F.BackingFile.holds c.args.file) c.in-Ok.below.device.now.bytes c.in-Ok-open.disk c.in-Ok.ensures.given c.in-Ok-open.ensures.label c.in-Ok-open.ensures.room c.in-Ok-open.ensures.ok
