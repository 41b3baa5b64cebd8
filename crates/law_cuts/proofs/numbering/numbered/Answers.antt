use Rattle.std.proofs.Common.{◌∙◌, sym, ap, subst, refl, map, ◌+◌, ℕ, List, reverse, get_or}
use Rattle.heap_model.specs.declared.record.LaneRecord.{LaneRecord}
use Rattle.heap_model.specs.declared.record.Record.TheVariants.{Acq}
use Rattle.heap_model.specs.Log.{lane, log_from}
use Rattle.heap_model.specs.Sections.{actions, ended}
use Rattle.law_cuts.specs.Plain.{HasSections}
use Rattle.law_cuts.proofs.Numbered.{entry_of, entries_push, sections_push}
use Rattle.law_cuts.proofs.numbering.numbered.Goals as goal

pub loop-i-preserved : goal.loop-i-preserved
loop-i-preserved c = record {
  entries = ap (map entry_of) c.in_ok-push.ensures.items ∙ entries_push c.args.records.now c.loop-i.i c.loop-i.steps.items _ (record { lane = record { 0 = 0 }; «record» = Acq (record { 0 = 0 }) 0 }) c.loop-i-test.true c.loop-i.invariant.entries refl;
  sections = subst (λ xs. HasSections (reverse xs)) (sym c.in_ok-push.ensures.items) (sections_push c.loop-i.steps.items _ c.loop-i.invariant.sections
      (ap (λ (n : ℕ). n + 1) (c.in_ok-section.ensures.count ∙ ap (λ (xs : List LaneRecord). ended (lane (get_or c.args.records.now c.loop-i.i (record { lane = record { 0 = 0 }; «record» = Acq (record { 0 = 0 }) 0 })).lane.0 (actions (log_from xs)))) (sym c.loop-i.invariant.entries))));
}
