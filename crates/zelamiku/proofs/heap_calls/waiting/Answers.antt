use Rattle.std.proofs.Common.{refl, ap, ◌∙◌}
use Rattle.zelamiku.specs.HeapDoors.{counted}
use Rattle.zelamiku.proofs.heap_calls.waiting.Goals as goal

pub returns-in-Heap-clause-told : goal.returns-in-Heap-clause-told
returns-in-Heap-clause-told c =
    rw c.in-Heap.is (
      c.waiting.new.self,
      c.waiting.ensures.heap,
      record { looked = c.waiting.ensures.looked; told = c.counted.ensures ∙ ap counted c.waiting.ensures.count; ok = refl },
      refl,
    )

pub returns-in-Closed-clause-told : goal.returns-in-Closed-clause-told
returns-in-Closed-clause-told c =
    let host = c.waiting-in-Closed.new.self in
    rw c.in-Closed.is (
      record { disk = c.in-Closed.closed.disk; calls = host },
      refl,
      record { looked = c.waiting-in-Closed.ensures.looked; told = c.counted-in-Closed.ensures ∙ ap counted c.waiting-in-Closed.ensures.count; ok = refl },
      refl,
    )
