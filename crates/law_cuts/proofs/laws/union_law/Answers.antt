use Rattle.law_cuts.proofs.Cuts.{union_whole, union_closed}
use Rattle.law_cuts.proofs.laws.union_law.Goals as goal

pub returns : goal.returns
returns c log a b wa ca wb cb = (union_whole log a b wa wb, union_closed log a b ca cb)
