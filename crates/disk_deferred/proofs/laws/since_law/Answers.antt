use Rattle.disk_deferred.proofs.Moments.{left_since_then}
use Rattle.disk_deferred.proofs.laws.since_law.Goals as goal

pub returns : goal.returns
returns c = left_since_then
