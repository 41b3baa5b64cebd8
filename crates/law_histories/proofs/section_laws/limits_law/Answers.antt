use Rattle.law_histories.proofs.Holders.{leaves_room}
use Rattle.law_histories.proofs.section_laws.limits_law.Goals as goal

pub returns : goal.returns
returns c acts within = leaves_room acts within
