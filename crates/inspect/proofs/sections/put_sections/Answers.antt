use Rattle.std.proofs.Common.{rules, length, arith, reverse, sym, subst, List}
use Rattle.std.specs.List.{flat_map}
use Rattle.std.specs.Io.KnownBytes.{Appends}
use Rattle.std.proofs.KnownBytes.{Appends-trans}
use Rattle.std.proofs.lemmas.List.{take_all}
use Rattle.std.proofs.lemmas.List.Concat.{flat_map-append}
use Rattle.std.proofs.lemmas.Result.{on_ok_weaker, on_err_weaker}
use Rattle.heap_model.specs.declared.record.UndoRecord.{UndoRecord}
use Rattle.recover_logs.specs.declared.lane_count.LaneCount.{LaneCount}
use Rattle.inspect.specs.declared.section.Section.{Section}
use Rattle.inspect.specs.Written.{AppendsPart}
use Rattle.recover_logs.specs.Lanes.{count_of}
use Rattle.inspect.specs.Sections.{whole_sections, unfinished_section}
use Rattle.inspect.specs.SectionText.{section_text}
use Rattle.inspect.proofs.PartLemmas.{always, part_first, part_second}
use Rattle.inspect.proofs.ToldLemmas.{Few, few}
use Rattle.inspect.proofs.sections.put_sections.Goals as goal

pub put_unfinished-requires : goal.put_unfinished-requires
put_unfinished-requires g c =
    let xs : List UndoRecord = c.args.records.now in
    let all : Few (count_of (reverse xs)) (length xs) = subst (λ (ys : List UndoRecord). Few (count_of (reverse ys)) (length xs)) (take_all (length xs) xs (omega arith)) (few xs (length xs) (omega arith)) in
    let counted : Few c.in_ok-gone.gone (length xs) = subst (λ (p : LaneCount). Few p (length xs)) (sym c.in_ok-gone.ensures.count) all in
    record { number = omega (arith, counted.ended) }

pub returns : goal.returns
returns g c =
    let text = section_text c.args.form c.args.numbering in
    let xs : List UndoRecord = reverse c.args.records.now in
    let whole : List Section = whole_sections c.args.numbering xs in
    let last : List Section = unfinished_section c.args.numbering (count_of xs) in
    let old = g.W.Write.contents c.args.writer.now in
    let mid = g.W.Write.contents c.put_whole_sections.new.writer in
    let new = g.W.Write.contents c.put_unfinished.new.writer in
    record {
      ok = on_ok_weaker c.put_unfinished.result (λ (more : Appends mid new (flat_map text (unfinished_section c.args.numbering c.in_ok-gone.gone))).
          subst (Appends old new) (sym (flat_map-append text whole last)) (Appends-trans old mid new (flat_map text whole) (flat_map text last) c.in_ok-gone.ensures.written.ok
          (subst (λ (p : LaneCount). Appends mid new (flat_map text (unfinished_section c.args.numbering p))) c.in_ok-gone.ensures.count more))) c.put_unfinished.ensures.ok;
      part = on_err_weaker c.put_unfinished.result (λ (more : AppendsPart mid new (flat_map text (unfinished_section c.args.numbering c.in_ok-gone.gone))).
          subst (AppendsPart old new) (sym (flat_map-append text whole last)) (part_second old mid new (flat_map text whole) (flat_map text last) c.in_ok-gone.ensures.written.ok
          (subst (λ (p : LaneCount). AppendsPart mid new (flat_map text (unfinished_section c.args.numbering p))) c.in_ok-gone.ensures.count more))) c.put_unfinished.ensures.part;
    }

pub returns-in_err-gone : goal.returns-in_err-gone
returns-in_err-gone g c =
    let text = section_text c.args.form c.args.numbering in
    let xs : List UndoRecord = reverse c.args.records.now in
    let whole : List Section = whole_sections c.args.numbering xs in
    let last : List Section = unfinished_section c.args.numbering (count_of xs) in
    let old = g.W.Write.contents c.args.writer.now in
    let mid = g.W.Write.contents c.put_whole_sections.new.writer in
    record {
      ok = search rules;
      part = always c.from_residual.result (subst (AppendsPart old mid) (sym (flat_map-append text whole last)) (part_first old mid (flat_map text whole) (flat_map text last) c.in_err-gone.ensures.written.part));
    }
