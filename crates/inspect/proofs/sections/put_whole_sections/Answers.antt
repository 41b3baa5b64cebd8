use Rattle.std.proofs.Common.{rules, ◌<◌, length, arith, take, reverse, sym, ap, subst, ◌∙◌, get_or, List}
use Rattle.std.specs.List.{flat_map}
use Rattle.std.specs.Io.KnownBytes.{Appends}
use Rattle.heap_model.specs.declared.record.UndoRecord.{UndoRecord}
use Rattle.recover_logs.specs.declared.lane_count.LaneCount.{LaneCount}
use Rattle.inspect.specs.Written.{AppendsPart}
use Rattle.recover_logs.specs.Lanes.{count_after, count_of}
use Rattle.inspect.specs.Sections.{ended_by}
use Rattle.inspect.specs.SectionText.{section_text}
use Rattle.std.proofs.KnownBytes.{Appends-nil}
use Rattle.inspect.proofs.PartLemmas.{always}
use Rattle.inspect.proofs.ToldLemmas.{Few, few, count_more, none, next_told, part_told}
use Rattle.inspect.proofs.sections.put_whole_sections.Goals as goal

pub put_ended-requires : goal.put_ended-requires
put_ended-requires g c =
    let i = c.loop-entry.entry-index in
    let xs : List UndoRecord = c.args.records.now in
    let lt : i < length xs = c.loop-entry-test.true in
    let counted : Few c.loop-entry.gone i = subst (λ (p : LaneCount). Few p i) (sym c.loop-entry.invariant.gone) (few xs i (omega arith)) in
    record { number = omega (arith, counted.ended); records = omega (arith, counted.since) }

pub after-gone-requires : goal.after-gone-requires
after-gone-requires g c =
    let i = c.loop-entry.entry-index in
    let xs : List UndoRecord = c.args.records.now in
    let lt : i < length xs = c.loop-entry-test.true in
    let counted : Few c.loop-entry.gone i = subst (λ (p : LaneCount). Few p i) (sym c.loop-entry.invariant.gone) (few xs i (omega arith)) in
    record { place = omega (arith, counted.place); held = omega (arith, counted.held); ended = omega (arith, counted.ended); since = omega (arith, counted.since) }

pub loop-entry-preserved : goal.loop-entry-preserved
loop-entry-preserved g c =
    let i = c.loop-entry.entry-index in
    let xs : List UndoRecord = c.args.records.now in
    let lt : i < length xs = c.loop-entry-test.true in
    let text = section_text c.args.form c.args.numbering in
    let w = g.W.Write.contents c.loop-entry.writer in
    let new = g.W.Write.contents c.put_ended.new.writer in
    let next : Appends w new (flat_map text (ended_by c.args.numbering (count_of (reverse (take i xs))) (get_or xs i none))) =
    subst (λ (p : LaneCount). Appends w new (flat_map text (ended_by c.args.numbering p (get_or xs i none)))) c.loop-entry.invariant.gone c.in_ok-put_ended.ensures.ok in
    record {
      gone = c.after-gone.ensures.exact ∙ ap (λ (p : LaneCount). count_after p (get_or xs i none)) c.loop-entry.invariant.gone ∙ sym (count_more xs i lt);
      written = next_told (ended_by c.args.numbering) text xs i lt (g.W.Write.contents c.args.writer.now) w new c.loop-entry.invariant.written next;
    }

pub returns-in_err-put_ended-clause-written : goal.returns-in_err-put_ended-clause-written
returns-in_err-put_ended-clause-written g c =
    let i = c.loop-entry.entry-index in
    let xs : List UndoRecord = c.args.records.now in
    let lt : i < length xs = c.loop-entry-test.true in
    let text = section_text c.args.form c.args.numbering in
    let w = g.W.Write.contents c.loop-entry.writer in
    let new = g.W.Write.contents c.put_ended.new.writer in
    let next : AppendsPart w new (flat_map text (ended_by c.args.numbering (count_of (reverse (take i xs))) (get_or xs i none))) =
    subst (λ (p : LaneCount). AppendsPart w new (flat_map text (ended_by c.args.numbering p (get_or xs i none)))) c.loop-entry.invariant.gone c.in_err-put_ended.ensures.part in
    record {
      ok = search rules;
      part = always c.from_residual.result (part_told (ended_by c.args.numbering) text xs i lt (g.W.Write.contents c.args.writer.now) w new c.loop-entry.invariant.written next);
    }

pub loop-entry-init : goal.loop-entry-init
loop-entry-init g c = record { gone = c.new-gone.ensures; written = Appends-nil (g.W.Write.contents c.args.writer.now) }
