use Rattle.std.proofs.Common.{ℕ, ◌≤◌, List}
use Rattle.heap_model.specs.Cuts.{counts_of}
use Rattle.law_cuts.specs.Plain.{IsClosedOver}
use Rattle.dependence.specs.declared.step.Step.{Step}
use Rattle.dependence.specs.Steps.{reading}
use Rattle.dependence.specs.Search.{IsAbove, AreCauses}
use Rattle.dependence.proofs.candidates.bar_all.Given as goal

abbrev pub invariant-loop-lane : goal.invariant-loop-lane
invariant-loop-lane l = (steps : List Step) (most : ℕ → ℕ) → AreCauses steps (counts_of l.answered) l.causes → ((k : ℕ) → counts_of l.answered k ≤ most k) → IsClosedOver reading steps (counts_of l.answered) → IsAbove steps most (counts_of l.fn.cut) → IsAbove steps most (counts_of l.cut)
