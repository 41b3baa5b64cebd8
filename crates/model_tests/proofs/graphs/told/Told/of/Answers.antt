use Rattle.std.proofs.Common.{ℕ, List, sym, subst}
use Rattle.heap_model.specs.Sections.{Action}
use Rattle.dependence.specs.Trace.{base_of}
use Rattle.model_tests.specs.Known.{IsKnown}
use Rattle.model_tests.proofs.graphs.told.Told.of.Goals as goal

pub invariant_of-result : goal.invariant_of-result
invariant_of-result c = subst (λ (xs : List (ℕ × Action)). IsKnown (base_of c.in-Ok.graph) xs c.of_none.result.taken c.of_none.result.freed c.of_none.result.holders c.of_none.result.sections) (sym c.in-Ok.ensures.empty) (c.of_none.ensures (base_of c.in-Ok.graph) c.in-Ok.ensures.base)
