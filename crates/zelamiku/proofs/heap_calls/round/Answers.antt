use Rattle.std.proofs.Common.{refl}
use Rattle.zelamiku.proofs.heap_calls.round.Goals as goal

pub returns-in-Ok-clause-told : goal.returns-in-Ok-clause-told
returns-in-Ok-clause-told c =
    let round = rw c.bound_of.ensures at c.round.ensures.round in
    rw c.in-Heap.is (c.round.new.self, c.round.result, round, rw c.in-Ok.is (refl, refl), refl)

pub returns-in-Err-clause-told : goal.returns-in-Err-clause-told
returns-in-Err-clause-told c =
    let round = rw c.bound_of.ensures at c.round.ensures.round in
    rw c.in-Heap.is (c.round.new.self, c.round.result, round, rw c.in-Err.is c.of_round.ensures, refl)
