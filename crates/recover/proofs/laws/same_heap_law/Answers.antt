use Rattle.recover.proofs.RecoveryLemmas.{same_heap, same_study}
use Rattle.recover.proofs.laws.same_heap_law.Goals as goal

pub returns-clause-heap : goal.returns-clause-heap
returns-clause-heap c = same_heap

pub returns-clause-study : goal.returns-clause-study
returns-clause-study c = same_study
