use Rattle.recover.proofs.Unrefused.{studied}
use Rattle.recover.proofs.laws.studied_law.Goals as goal

pub returns : goal.returns
returns c = studied
