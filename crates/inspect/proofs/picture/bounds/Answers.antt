use Rattle.std.proofs.Common.{ℕ, ◌≡◌, ◌+◌, ◌-◌, ◌<◌, ◌∙◌, ◌++◌, List, [], ◌∷◌, length, take, reverse, sym, ap, ap₂, arith, slice_set}
use Rattle.std.proofs.lemmas.List.{length-set, take_more_set}
use Rattle.heap_model.specs.declared.record.UndoRecord.{UndoRecord}
use Rattle.recover_logs.specs.Lanes.{count_of}
use Rattle.recover_heap.specs.Logs.{records_of}
use Rattle.inspect.specs.declared.numbering.Numbering.{Numbering}
use Rattle.inspect.specs.Drawn.{drawn_from}
use Rattle.inspect.proofs.LaneLemmas.{lanes_more}
use Rattle.inspect.proofs.picture.bounds.Goals as goal

pub loop-lane-preserved : goal.loop-lane-preserved
loop-lane-preserved c =
    let s = c.args.study.now in
    let l = c.loop-lane.lane in
    let old : List ℕ = c.loop-lane.firsts in
    let tell = λ (m : ℕ). drawn_from c.args.last s m ∷ [] in
    let records : c.records_in.result.now ≡ records_of s.records.items l = c.records_in.ensures ∙ ap (λ logs. records_of logs l) c.deref.ensures.value in
    let first : c.first_of_last-first.result ≡ drawn_from c.args.last s l =
    c.first_of_last-first.ensures ∙ ap₂ (λ (n : Numbering) (xs : List UndoRecord). n.first + ((count_of (reverse xs)).ended - c.args.last)) c.lane_numbering-numbering.ensures records in
    let low : l < length old = omega (arith, c.loop-lane.invariant.all, c.loop-lane-test.true, c.requires.lanes) in
    record {
      all = length-set old c.from.result c.first_of_last-first.result ∙ c.loop-lane.invariant.all;
      so_far = ap (λ (k : ℕ). take (l + 1) (slice_set old k c.first_of_last-first.result)) c.from.ensures ∙ take_more_set old l c.first_of_last-first.result low
          ∙ ap₂ (λ (xs : List ℕ) (x : ℕ). xs ++ x ∷ []) c.loop-lane.invariant.so_far first ∙ sym (lanes_more tell l);
    }
