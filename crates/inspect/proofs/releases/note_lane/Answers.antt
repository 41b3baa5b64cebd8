use Rattle.std.proofs.Common.{◌≡◌, ◌+◌, ◌<◌, ◌++◌, length, arith, take, reverse, sym, ap, subst, ◌∙◌, get_or, List, append_assoc, length-append}
use Rattle.heap_model.specs.declared.record.UndoRecord.{UndoRecord}
use Rattle.recover_logs.specs.declared.lane_count.LaneCount.{LaneCount}
use Rattle.recover_logs.specs.Lanes.{count_after, count_of}
use Rattle.inspect.specs.Sections.{told}
use Rattle.inspect.specs.Links.{Release, Tells, released_by}
use Rattle.inspect.proofs.PartLemmas.{always}
use Rattle.inspect.proofs.ToldLemmas.{Few, few, count_more, none, told_more, told_split}
use Rattle.inspect.proofs.releases.note_lane.Goals as goal

pub note_release-requires : goal.note_release-requires
note_release-requires c =
    let i = c.loop-entry.entry-index in
    let xs : List UndoRecord = c.args.records.now in
    let lt : i < length xs = c.loop-entry-test.true in
    let counted : Few c.loop-entry.gone i = subst (λ (p : LaneCount). Few p i) (sym c.loop-entry.invariant.gone) (few xs i (omega arith)) in
    omega (arith, counted.ended)

pub after-gone-requires : goal.after-gone-requires
after-gone-requires c =
    let i = c.loop-entry.entry-index in
    let xs : List UndoRecord = c.args.records.now in
    let lt : i < length xs = c.loop-entry-test.true in
    let counted : Few c.loop-entry.gone i = subst (λ (p : LaneCount). Few p i) (sym c.loop-entry.invariant.gone) (few xs i (omega arith)) in
    record { place = omega (arith, counted.place); held = omega (arith, counted.held); ended = omega (arith, counted.ended); since = omega (arith, counted.since) }

pub loop-entry-preserved : goal.loop-entry-preserved
loop-entry-preserved c =
    let i = c.loop-entry.entry-index in
    let xs : List UndoRecord = c.args.records.now in
    let lt : i < length xs = c.loop-entry-test.true in
    let tell = released_by c.args.numbering in
    let r : UndoRecord = get_or xs i none in
    let so_far : List Release = told tell (reverse (take i xs)) in
    record {
      gone = c.after-gone.ensures.exact ∙ ap (λ (p : LaneCount). count_after p r) c.loop-entry.invariant.gone ∙ sym (count_more xs i lt);
      noted = λ older tells.
          let before : Tells c.loop-entry.releases (older ++ so_far) = c.loop-entry.invariant.noted older tells in
          let after : Tells c.note_release.new.releases (older ++ so_far ++ tell c.loop-entry.gone r) = c.in_ok-note_release.ensures.ok (older ++ so_far) before in
          let same : older ++ so_far ++ tell c.loop-entry.gone r ≡ older ++ told tell (reverse (take (i + 1) xs)) =
          append_assoc older so_far (tell c.loop-entry.gone r) ∙ ap (λ (p : LaneCount). older ++ (so_far ++ tell p r)) c.loop-entry.invariant.gone ∙ ap (λ (ys : List Release). older ++ ys) (sym (told_more tell xs i lt)) in
          subst (Tells c.note_release.new.releases) same after;
    }

pub returns-in_err-note_release-clause-no_memory : goal.returns-in_err-note_release-clause-no_memory
returns-in_err-note_release-clause-no_memory c =
    let i = c.loop-entry.entry-index in
    let xs : List UndoRecord = c.args.records.now in
    let tell = released_by c.args.numbering in
    let r : UndoRecord = get_or xs i none in
    let so_far : List Release = told tell (reverse (take i xs)) in
    let next : List Release = tell (count_of (reverse (take i xs))) r in
    let some : 0 < length next = subst (λ (p : LaneCount). 0 < length (tell p r)) c.loop-entry.invariant.gone c.in_err-note_release.ensures.no_memory in
    let rest = told_split tell xs i c.loop-entry-test.true in
    always c.from_residual.result (subst (λ (ys : List Release). 0 < length ys) (sym rest.1) (omega (arith, length-append (so_far ++ next) rest.0, length-append so_far next, some)))
