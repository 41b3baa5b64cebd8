use Rattle.std.proofs.Common.{◌≡◌, reverse, ap, subst, ◌∙◌, List, OnOk, OnErr}
use Rattle.std.specs.List.{flat_map}
use Rattle.std.specs.Io.KnownBytes.{Appends}
use Rattle.heap_model.specs.declared.record.UndoRecord.{UndoRecord}
use Rattle.recover_heap.specs.Logs.{records_of}
use Rattle.inspect.specs.declared.numbering.Numbering.{Numbering}
use Rattle.inspect.specs.Written.{AppendsPart}
use Rattle.inspect.specs.Sections.{numbering_of, live_sections}
use Rattle.inspect.specs.SectionText.{section_text}
use Rattle.inspect.proofs.study_lines.put_lane_sections.Goals as goal

pub returns : goal.returns
returns g c =
    let s = c.args.study.now in
    let l = c.args.lane.0 in
    let old = g.W.Write.contents c.args.writer.now in
    let new = g.W.Write.contents c.put_sections.new.writer in
    let records : c.records_in.result.now ≡ records_of s.records.items l = c.records_in.ensures ∙ ap (λ logs. records_of logs l) c.deref.ensures.value in
    record {
      ok = subst (λ (xs : List UndoRecord). OnOk c.put_sections.result (Appends old new (flat_map (section_text c.args.form (numbering_of s l)) (live_sections (numbering_of s l) (reverse xs))))) records
          (subst (λ (n : Numbering). OnOk c.put_sections.result (Appends old new (flat_map (section_text c.args.form n) (live_sections n (reverse c.records_in.result.now))))) c.lane_numbering-numbering.ensures c.put_sections.ensures.ok);
      part = subst (λ (xs : List UndoRecord). OnErr c.put_sections.result (AppendsPart old new (flat_map (section_text c.args.form (numbering_of s l)) (live_sections (numbering_of s l) (reverse xs))))) records
          (subst (λ (n : Numbering). OnErr c.put_sections.result (AppendsPart old new (flat_map (section_text c.args.form n) (live_sections n (reverse c.records_in.result.now))))) c.lane_numbering-numbering.ensures c.put_sections.ensures.part);
    }
