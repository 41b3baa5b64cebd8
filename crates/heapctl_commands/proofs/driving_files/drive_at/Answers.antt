use Rattle.image_file.proofs.BesideLemmas.{keeps_before}
use Rattle.heapctl_commands.proofs.FileLemmas.{no_run}
use Rattle.heapctl_commands.proofs.driving_files.drive_at.Goals as goal

pub returns-in-Ok-drive_on-clause-ok : goal.returns-in-Ok-drive_on-clause-ok
returns-in-Ok-drive_on-clause-ok g c = record {
  opened = g.D.Disk.device c.in-Ok.disk;
  begun = c.in-Ok.ensures.ok;
  theirs = c.in-Ok-drive_on.ensures.theirs;
  now = c.in-Ok-drive_on.left;
  so = c.in-Ok-drive_on.ensures.ok;
  left = c.give_back.ensures.left;
}

pub returns-in-Err-drive_on-clause-refused : goal.returns-in-Err-drive_on-clause-refused
returns-in-Err-drive_on-clause-refused g c = record {
  opened = g.D.Disk.device c.in-Ok.disk;
  begun = c.in-Ok.ensures.ok;
  after = g.D.Disk.device c.in-Err-drive_on.disk;
  refused = c.in-Err-drive_on.ensures.refused;
  left = c.close.ensures.left;
}

pub returns-in-Err-clause-refused : goal.returns-in-Err-clause-refused
returns-in-Err-clause-refused g c = no_run g.D.Disk.device c.args.workers _ _ c.in-Err.fault c.in-Err.ensures.refused

pub returns-in-Ok-drive_on-clause-beside : goal.returns-in-Ok-drive_on-clause-beside
returns-in-Ok-drive_on-clause-beside g c = keeps_before c.disk_at.ensures.beside c.give_back.ensures.beside

pub returns-in-Err-drive_on-clause-beside : goal.returns-in-Err-drive_on-clause-beside
returns-in-Err-drive_on-clause-beside g c = keeps_before c.disk_at.ensures.beside c.close.ensures.beside
