use Rattle.std.proofs.Common.{ℕ, ◌≡◌, ◌+◌, ◌<◌, ◌++◌, length, reverse, sym, ap, subst, ◌∙◌, List, arith, length-append}
use Rattle.heap_model.specs.declared.record.UndoRecord.{UndoRecord}
use Rattle.recover_heap.specs.Logs.{records_of}
use Rattle.inspect.specs.declared.numbering.Numbering.{Numbering}
use Rattle.inspect.specs.Sections.{told, by_lane, numbering_of}
use Rattle.inspect.specs.Links.{Release, Tells, released_by}
use Rattle.inspect.proofs.PartLemmas.{always}
use Rattle.inspect.proofs.LaneLemmas.{lanes_more, lanes_split}
use Rattle.inspect.proofs.releases.releases_in.Goals as goal

pub loop-lane-preserved : goal.loop-lane-preserved
loop-lane-preserved c =
    let s = c.args.study.now in
    let l = c.loop-lane.lane in
    let tell = λ (lane : ℕ). told (released_by (numbering_of s lane)) (reverse (records_of s.records.items lane)) in
    let noted : Tells c.note_lane.new.releases (by_lane tell l ++ told (released_by c.lane_numbering-numbering.result) (reverse c.records_in.result.now)) = c.in_ok-note_lane.ensures.ok (by_lane tell l) c.loop-lane.invariant in
    let records : c.records_in.result.now ≡ records_of s.records.items l = c.records_in.ensures ∙ ap (λ logs. records_of logs l) c.deref.ensures.value in
    let same : by_lane tell l ++ told (released_by c.lane_numbering-numbering.result) (reverse c.records_in.result.now) ≡ by_lane tell (l + 1) =
    ap (λ (n : Numbering). by_lane tell l ++ told (released_by n) (reverse c.records_in.result.now)) c.lane_numbering-numbering.ensures
    ∙ ap (λ (xs : List UndoRecord). by_lane tell l ++ told (released_by (numbering_of s l)) (reverse xs)) records ∙ sym (lanes_more tell l) in
    subst (Tells c.note_lane.new.releases) same noted

pub returns-in_err-note_lane-clause-no_memory : goal.returns-in_err-note_lane-clause-no_memory
returns-in_err-note_lane-clause-no_memory c =
    let s = c.args.study.now in
    let l = c.loop-lane.lane in
    let tell = λ (lane : ℕ). told (released_by (numbering_of s lane)) (reverse (records_of s.records.items lane)) in
    let records : c.records_in.result.now ≡ records_of s.records.items l = c.records_in.ensures ∙ ap (λ logs. records_of logs l) c.deref.ensures.value in
    let same : told (released_by c.lane_numbering-numbering.result) (reverse c.records_in.result.now) ≡ tell l =
    ap (λ (n : Numbering). told (released_by n) (reverse c.records_in.result.now)) c.lane_numbering-numbering.ensures
    ∙ ap (λ (xs : List UndoRecord). told (released_by (numbering_of s l)) (reverse xs)) records in
    let some : 0 < length (tell l) = subst (λ (ys : List Release). 0 < length ys) same c.in_err-note_lane.ensures.no_memory in
    let rest = lanes_split tell l s.layout.lanes c.loop-lane-test.true in
    always c.from_residual.result (subst (λ (ys : List Release). 0 < length ys) (sym rest.1) (omega (arith, length-append (by_lane tell l ++ tell l) rest.0, length-append (by_lane tell l) (tell l), some)))
