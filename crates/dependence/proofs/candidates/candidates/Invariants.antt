use Rattle.std.proofs.Common.{ℕ, ◌≤◌, List, slice_index}
use Rattle.heap_model.specs.Cuts.{counts_of}
use Rattle.law_cuts.specs.Plain.{IsClosedOver}
use Rattle.dependence.specs.declared.step.Step.{Step}
use Rattle.dependence.specs.Steps.{reading}
use Rattle.dependence.specs.Search.{IsAbove, AreCauses}
use Rattle.dependence.proofs.candidates.candidates.Given as goal

abbrev pub invariant-loop : goal.invariant-loop
invariant-loop l = (steps : List Step) → AreCauses steps (counts_of l.answered) l.causes → ((k : ℕ) → counts_of l.answered k ≤ slice_index l.ended k) → IsClosedOver reading steps (counts_of l.answered) → IsAbove steps (slice_index l.ended) (counts_of l.cut)
