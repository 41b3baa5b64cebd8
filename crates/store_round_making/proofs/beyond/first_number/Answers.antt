use Rattle.std.proofs.Common.{List, ap, sym, ◌∙◌, arith}
use Rattle.std.proofs.lemmas.List.{take_all}
use Rattle.heap_model.specs.declared.record.LaneRecord.{LaneRecord}
use Rattle.heap_model.specs.Log.{log_from}
use Rattle.store_helper_sections.specs.HelperSections.{first_taken}
use Rattle.store_round_making.proofs.BeyondLemmas.{first_found, none_next}
use Rattle.store_round_making.proofs.beyond.first_number.Goals as goal

pub returns-in-Some : goal.returns-in-Some
returns-in-Some c = first_found c.args.object.0 c.in-Some.number c.args.beyond.now c.loop-entry.entry-index _ c.loop-entry-test.true c.loop-entry.invariant.none (sym c.taken.ensures ∙ c.in-Some.is)

pub loop-entry-preserved : goal.loop-entry-preserved
loop-entry-preserved c = record { none = none_next c.args.object.0 c.args.beyond.now c.loop-entry.entry-index _ c.loop-entry-test.true c.loop-entry.invariant.none (sym c.taken.ensures ∙ c.in_default.is) }

pub returns : goal.returns
returns c = sym (
    ap (λ (xs : List LaneRecord). first_taken c.args.object.0 (log_from xs)) (sym (take_all c.loop-entry.entry-index c.args.beyond.now (omega (arith, c.loop-entry-test.false))))
    ∙ c.loop-entry.invariant.none)
