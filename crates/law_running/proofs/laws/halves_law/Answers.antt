use Rattle.law_running.proofs.Halves.{read_publishing, read_settling}
use Rattle.law_running.proofs.laws.halves_law.Goals as goal

pub returns-clause-settling : goal.returns-clause-settling
returns-clause-settling g c = read_settling g.D.Disk.device

pub returns-clause-publishing : goal.returns-clause-publishing
returns-clause-publishing g c = read_publishing g.D.Disk.device c.stable_law.ensures.rises
