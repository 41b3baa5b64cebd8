use Rattle.std.proofs.Common.{List, [], ◌∷◌, refl, arith}
use Rattle.std.specs.Prelude.{All}
use Rattle.std.proofs.lemmas.List.Elements.{All-cons}
use Rattle.heap_model.specs.declared.record.LaneRecord.{LaneRecord}
use Rattle.store_round_memory.specs.Surveys.{FitsLane}
use Rattle.store_round_memory.proofs.tests.is_left_as_worked.Goals as goal

-- the records from each on
pub leave-left-requires-clause-lanes : goal.leave-left-requires-clause-lanes
leave-left-requires-clause-lanes c =
    let none : All (FitsLane 32 2 3) [] = λ k d lt. absurd (omega (arith, lt)) in
    let last : List LaneRecord = c.put-2.result ∷ [] in
    let fifth : List LaneRecord = c.put.result ∷ last in
    let fourth : List LaneRecord = c.acquire-3.result ∷ fifth in
    let third : List LaneRecord = c.acquire-2.result ∷ fourth in
    let second : List LaneRecord = c.release.result ∷ third in
    let fits : All (FitsLane 32 2 3) (c.acquire.result ∷ second) =
    All-cons (FitsLane 32 2 3) c.acquire.result second c.acquire.ensures
    (All-cons (FitsLane 32 2 3) c.release.result third c.release.ensures
    (All-cons (FitsLane 32 2 3) c.acquire-2.result fourth c.acquire-2.ensures
    (All-cons (FitsLane 32 2 3) c.acquire-3.result fifth c.acquire-3.ensures
    (All-cons (FitsLane 32 2 3) c.put.result last c.put.ensures
    (All-cons (FitsLane 32 2 3) c.put-2.result [] c.put-2.ensures none))))) in
    λ k d lt. (fits k d lt).0

pub leave-left-requires-clause-apart : goal.leave-left-requires-clause-apart
leave-left-requires-clause-apart c = λ l low some. refl
