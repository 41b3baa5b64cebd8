use Rattle.law_survival.proofs.Accepts.{finds, finds_heap, of_today}
use Rattle.law_survival.proofs.laws.found_law.Goals as goal

pub returns-clause-found : goal.returns-clause-found
returns-clause-found c = λ l s p image found left holds. finds l s p image (of_today l s p image left) found holds

pub returns-clause-heap : goal.returns-clause-heap
returns-clause-heap c = λ l s p image heap found left holds for_it. finds_heap l s p image (of_today l s p image left) heap found holds for_it
