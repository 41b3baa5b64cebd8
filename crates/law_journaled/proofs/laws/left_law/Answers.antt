use Rattle.law_journaled.proofs.Left.{host_leaves, left_now}
use Rattle.law_journaled.proofs.laws.left_law.Goals as goal

pub returns-clause-left : goal.returns-clause-left
returns-clause-left c = left_now _ c.possible_law.ensures.left

pub returns-clause-host : goal.returns-clause-host
returns-clause-host c = host_leaves
