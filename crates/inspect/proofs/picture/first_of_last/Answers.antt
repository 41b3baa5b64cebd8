use Rattle.std.proofs.Common.{List, length, arith, reverse, sym, subst}
use Rattle.std.proofs.lemmas.List.{take_all}
use Rattle.heap_model.specs.declared.record.UndoRecord.{UndoRecord}
use Rattle.recover_logs.specs.Lanes.{count_of}
use Rattle.recover_logs.specs.declared.lane_count.LaneCount.{LaneCount}
use Rattle.inspect.proofs.ToldLemmas.{Few, few}
use Rattle.inspect.proofs.picture.first_of_last.Goals as goal

pub overflow_add-result : goal.overflow_add-result
overflow_add-result c =
    let xs : List UndoRecord = c.args.records.now in
    let all : Few (count_of (reverse xs)) (length xs) = subst (λ (ys : List UndoRecord). Few (count_of (reverse ys)) (length xs)) (take_all (length xs) xs (omega arith)) (few xs (length xs) (omega arith)) in
    let counted : Few c.count_all-ended.result (length xs) = subst (λ (p : LaneCount). Few p (length xs)) (sym c.count_all-ended.ensures.exact) all in
    omega (arith, c.requires, counted.ended, c.saturating_sub.ensures)
