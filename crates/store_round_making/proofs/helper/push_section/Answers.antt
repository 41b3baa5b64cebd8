use Rattle.std.proofs.Common.{ℕ, List, [], ◌∷◌, ◌++◌, map, ap, sym, ◌∙◌, arith}
use Rattle.std.proofs.lemmas.List.{take_all}
use Rattle.heap_model.specs.declared.record.UndoRecord.{UndoRecord}
use Rattle.heap_model.specs.declared.record.UndoRecord.TheVariants.{Acq, Rel}
use Rattle.store_round_making.proofs.HelperRecords.{in_order, joined, put}
use Rattle.store_round_making.proofs.helper.push_section.Goals as goal

pub returns-clause-records : goal.returns-clause-records
returns-clause-records c = λ heap are.
    let old : List UndoRecord = c.args.records.now.items in
    let cells = c.args.cells.now in
    let n : ℕ = c.before-number.result in
    c.push_reserved-2.ensures.items
    ∙ ap (λ (xs : List UndoRecord). xs ++ Rel c.args.guard n ∷ []) (c.loop-cell.invariant.items ∙ (λ i. c.push_reserved.ensures.items i ++ map put (take_all c.loop-cell.cell-index cells (omega (arith, c.loop-cell-test.false)) i)))
    ∙ joined old (Acq c.args.guard n) (Rel c.args.guard n) (map put cells)
    ∙ ap (λ (m : ℕ). old ++ (Acq c.args.guard m ∷ map put cells ++ Rel c.args.guard m ∷ [])) c.before-number.ensures
    ∙ ap (λ (xs : List UndoRecord). old ++ xs) (sym (in_order heap c.args.guard c.args.first cells are))
