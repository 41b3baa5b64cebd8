use Rattle.std.proofs.Common.{List, ℕ, refl, subst}
use Rattle.script_images.specs.Assigning.{HasHeap}
use Rattle.script_images.proofs.assigning.checked.Goals as goal

pub returns-in-Ok-true-clause-ok : goal.returns-in-Ok-true-clause-ok
returns-in-Ok-true-clause-ok c =
    (refl, subst (λ (image : List ℕ). HasHeap c.args.heap.now image) c.deref.ensures.value (c.in-Ok-true.ensures c.in-Ok-true.field-0-test))
