use Rattle.std.proofs.Common.{ℕ, List, slice_index, ap}
use Rattle.store_memory.proofs.SectionLaws.{tells_nothing}
use Rattle.store_memory.proofs.Slots.{one_value}
use Rattle.store_memory.proofs.sections.LoggedSections.with_capacity.Goals as goal

pub returns-clause-empty : goal.returns-clause-empty
returns-clause-empty c = tells_nothing _ c.in_ok-with_capacity.ensures.base c.in_ok-with_capacity.ensures.empty
    (λ k. one_value 32 k 0)
    (λ k. ap (λ (xs : List ℕ). slice_index xs k) c.in_ok-with_capacity-2.ensures.items)
