use Rattle.std.proofs.Common.{◌≡◌, ◌∙◌, ◌<◌, List, [], ◌∷◌, length, take, get_or, sym, ap, subst}
use Rattle.std.proofs.lemmas.List.{take_more, get_or_default}
use Rattle.heap_model.specs.declared.record.UndoRecord.{UndoRecord}
use Rattle.heap_model.specs.declared.record.UndoRecord.TheVariants.{Put}
use Rattle.recover_logs.specs.First.{IsLowered, lowered}
use Rattle.recover_logs.proofs.FirstLemmas.{lowered_one, lowered_more, lowered_none}
use Rattle.recover_logs.proofs.first_numbers.lower_all.Goals as goal

pub loop-entry-init : goal.loop-entry-init
loop-entry-init c = lowered_none c.args.numbers.now

pub loop-entry-preserved : goal.loop-entry-preserved
loop-entry-preserved c =
    let i = c.loop-entry.entry-index in
    let xs : List UndoRecord = c.args.records.now in
    let d : UndoRecord = Put (record { 0 = 0 }) 0 in
    let lt : i < length xs = c.loop-entry-test.true in
    let r : UndoRecord = get_or xs i d in
    let before = c.loop-entry.invariant in
    let one : IsLowered c.loop-entry.numbers (r ∷ []) (lowered c.loop-entry.numbers r) = lowered_one c.loop-entry.numbers r (before.size ∙ c.requires.objects) (c.requires.range i d lt) in
    let new : c.lower.new.numbers ≡ lowered c.loop-entry.numbers r = c.lower.ensures ∙ ap (lowered c.loop-entry.numbers) (get_or_default xs i _ d lt) in
    subst (λ (ys : List UndoRecord). IsLowered c.args.numbers.now ys c.lower.new.numbers) (sym (take_more xs i d lt))
    (lowered_more c.args.numbers.now c.loop-entry.numbers c.lower.new.numbers (take i xs) (r ∷ []) before (subst (IsLowered c.loop-entry.numbers (r ∷ [])) (sym new) one))
