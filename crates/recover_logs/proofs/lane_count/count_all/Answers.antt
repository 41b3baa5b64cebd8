use Rattle.std.proofs.Common.{ℕ, ◌≡◌, ◌+◌, ◌<◌, ◌≤◌, ◌∷◌, ◌∙◌, List, length, get_or, reverse, take, sym, ap, subst, arith}
use Rattle.std.proofs.lemmas.List.{take_all}
use Rattle.heap_model.specs.Sections.{Action, undo_action}
use Rattle.heap_model.specs.declared.record.UndoRecord.{UndoRecord}
use Rattle.heap_model.specs.declared.record.UndoRecord.TheVariants.{Acq}
use Rattle.recover_logs.specs.Lanes.{Counts, count_after, count_of, new_count}
use Rattle.recover_logs.specs.declared.lane_count.LaneCount.{LaneCount}
use Rattle.recover_logs.proofs.LaneCountLemmas.{counts_of, records_more, held_few, ended_few, since_few}
use Rattle.recover_logs.proofs.lane_count.count_all.Goals as goal

abbrev none : UndoRecord
none = Acq (record { 0 = 0 }) 0

pub loop-entry-preserved : goal.loop-entry-preserved
loop-entry-preserved c =
    let i = c.loop-entry.entry-index in
    let xs : List UndoRecord = c.args.records.now in
    let lt : i < length xs = c.loop-entry-test.true in
    let r : UndoRecord = get_or xs i none in
    let a : Action = undo_action r in
    let old : LaneCount = c.loop-entry.count in
    let before = c.loop-entry.invariant in
    let exact : c.after-count.result ≡ count_after old r = c.after-count.ensures.exact in
    record {
      counted = exact ∙ ap (λ (n : LaneCount). count_after n r) before.counted ∙ sym (ap count_of (records_more xs i none lt));
      place = subst (λ (k : ℕ). k ≤ i + 1) (sym (ap (λ (n : LaneCount). n.place) exact)) (omega (arith, before.place));
      held = subst (λ (k : ℕ). k ≤ i + 1) (sym (ap (λ (n : LaneCount). n.held) exact)) (held_few a old.held i before.held);
      ended = subst (λ (k : ℕ). k ≤ i + 1) (sym (ap (λ (n : LaneCount). n.ended) exact)) (ended_few a old.held old.ended i before.ended);
      since = subst (λ (k : ℕ). k ≤ i + 1) (sym (ap (λ (n : LaneCount). n.since) exact)) (since_few a old.held old.since i before.since);
    }

pub returns-clause-counts : goal.returns-clause-counts
returns-clause-counts c = λ frees.
    let xs : List UndoRecord = c.args.records.now in
    let all : take c.loop-entry.entry-index xs ≡ xs = take_all _ xs (omega (arith, c.loop-entry-test.false)) in
    let exact : c.loop-entry.count ≡ count_of (reverse xs) = c.loop-entry.invariant.counted ∙ ap (λ (ys : List UndoRecord). count_of (reverse ys)) all in
    subst (Counts new_count (reverse xs)) (sym exact) (counts_of (reverse xs) frees)
