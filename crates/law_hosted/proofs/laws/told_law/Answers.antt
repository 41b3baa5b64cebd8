use Rattle.law_hosted.proofs.Told.{acknowledged_told, host_read}
use Rattle.law_hosted.proofs.laws.told_law.Goals as goal

pub returns-clause-acknowledged : goal.returns-clause-acknowledged
returns-clause-acknowledged c = acknowledged_told c.stable_law.ensures.keeps c.running_law.ensures.run

pub returns-clause-read : goal.returns-clause-read
returns-clause-read c = host_read c.stable_law.ensures.keeps c.running_law.ensures.run
