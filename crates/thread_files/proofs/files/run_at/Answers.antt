use Rattle.image_file.proofs.BesideLemmas.{keeps_before}
use Rattle.thread_files.proofs.FileLemmas.{no_run}
use Rattle.thread_files.proofs.files.run_at.Goals as goal

pub returns-in-Ok-run_on-clause-ok : goal.returns-in-Ok-run_on-clause-ok
returns-in-Ok-run_on-clause-ok g c = record {
  opened = c.in-Ok.disk;
  begun = c.in-Ok.ensures.ok;
  theirs = c.in-Ok-run_on.ensures.theirs;
  now = c.in-Ok-run_on.ran.recovered;
  so = c.in-Ok-run_on.ensures.ok;
  left = c.give_back.ensures.left;
}

pub returns-in-Err-run_on-clause-refused : goal.returns-in-Err-run_on-clause-refused
returns-in-Err-run_on-clause-refused g c = record {
  opened = c.in-Ok.disk;
  begun = c.in-Ok.ensures.ok;
  after = g.D.Disk.device c.in-Err-run_on.disk;
  refused = c.in-Err-run_on.ensures.refused;
  left = c.close.ensures.left;
}

pub returns-in-Err-clause-refused : goal.returns-in-Err-clause-refused
returns-in-Err-clause-refused g c = no_run (g.W.Work.does c.args.work.now) g.D.Disk.device c.args.schema c.args.plan _ _ c.in-Err.fault c.in-Err.ensures.refused

pub returns-in-Ok-run_on-clause-beside : goal.returns-in-Ok-run_on-clause-beside
returns-in-Ok-run_on-clause-beside g c = keeps_before c.disk_at.ensures.beside c.give_back.ensures.beside

pub returns-in-Err-run_on-clause-beside : goal.returns-in-Err-run_on-clause-beside
returns-in-Err-run_on-clause-beside g c = keeps_before c.disk_at.ensures.beside c.close.ensures.beside
