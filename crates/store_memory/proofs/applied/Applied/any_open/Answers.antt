use Rattle.std.proofs.Common.{ℕ, ◌≡◌, List, sym, subst}
use Rattle.store_memory.specs.declared.states.LaneState.{LaneState}
use Rattle.store_memory.specs.Memory.{Memory, lane_in}
use Rattle.store_memory.specs.Remembers.{Remembers}
use Rattle.store_memory.specs.Within.{memory_of}
use Rattle.store_memory.proofs.Begins.{none_held}
use Rattle.store_memory.proofs.applied.Applied.any_open.Goals as goal

pub returns-clause-open : goal.returns-clause-open
returns-clause-open c = λ s p l was none.
    none_held s (memory_of c.self.inside) p (subst (λ (m : Memory). Remembers s m p) (sym c.self.view_is) was)
    (subst (λ (ls : List LaneState). (k : ℕ) → (lane_in ls k).held ≡ 0) c.deref.ensures.value (c.any_open.ensures.closed none)) l
