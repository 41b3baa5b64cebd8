use Rattle.trim_helper.proofs.HeardRings.{seen_applied}
use Rattle.trim_helper.proofs.hearing.seen_law.Goals as goal

pub returns : goal.returns
returns g c h s p y seen serving l lt = seen_applied g.D.Disk.device h s p y seen serving l lt
