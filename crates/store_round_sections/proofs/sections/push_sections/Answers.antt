use Rattle.std.proofs.Common.{ℕ, ◌≡◌, ◌-◌, ◌<◌, ◌^◌, List, ◌++◌, append_assoc, ap, arith, inl, inr, subst, drop, get_or, length, length-drop, length-take-le, sym, take, ◌∙◌}
use Rattle.std.specs.Prelude.{All}
use Rattle.std.proofs.lemmas.Bool.{cases_lt}
use Rattle.std.proofs.lemmas.List.Elements.{All-drop, All-take, All-weaker}
use Rattle.heap_model.specs.declared.ids.ObjectId.{ObjectId}
use Rattle.heap_model.specs.declared.record.UndoRecord.{UndoRecord}
use Rattle.heap_model.specs.Base.{records_since}
use Rattle.undo_log.specs.Area.{IsLoggable}
use Rattle.store_helper_sections.specs.HelperSections.{HelperSection}
use Rattle.store_helper_sections.specs.Image.{kept_by}
use Rattle.store_round_image.specs.declared.cells.HomeValue.{HomeValue}
use Rattle.store_round_making.specs.Helper.{HasValueIn, records_of, section_of}
use Rattle.store_round_sections.specs.Adding.{IsKept}
use Rattle.store_round_sections.specs.Sections.{first_in, guard_of, sections_of}
use Rattle.store_round_sections.proofs.Made.{all_loggable, made, made_undo, words_of}
use Rattle.store_round_sections.proofs.Rising.{Stand, ordered, stand}
use Rattle.store_round_sections.proofs.Runs.{IsRun, needs_less, run_of}
use Rattle.store_round_sections.proofs.Stores.{stores_to}
use Rattle.store_round_sections.proofs.sections.push_sections.Goals as goal

abbrev none : HomeValue
none = record { field = record { 0 = 0 }; value = 0 }

pub push_section-requires-clause-room : goal.push_section-requires-clause-room
push_section-requires-clause-room c =
    let changed : List HomeValue = c.args.changed.now in
    let begin : ℕ = c.run_start-begin.result in
    let run : IsRun c.args.guards.now c.args.first.now changed c.loop-end.end begin (get_or changed begin none) =
    run_of c.args.guards.now c.args.first.now changed c.loop-end.end begin none c.run_start-begin.ensures.run c.loop-end.invariant.within c.loop-end.invariant.ends in
    let few : length (take (c.loop-end.end - begin) (drop begin changed)) ≡ c.loop-end.end - begin =
    length-take-le (c.loop-end.end - begin) (drop begin changed) (omega (arith, length-drop begin changed, c.loop-end.invariant.within)) in
    omega (arith, few, run.needs, needs_less c.args.guards.now c.args.first.now begin changed, c.requires.room, c.loop-end.invariant.len, c.loop-end.invariant.capacity)

pub loop-end-preserved : goal.loop-end-preserved
loop-end-preserved c =
    let guards = c.args.guards.now in
    let first = c.args.first.now in
    let changed : List HomeValue = c.args.changed.now in
    let old : List UndoRecord = c.args.records.now.items in
    let end : ℕ = c.loop-end.end in
    let begin : ℕ = c.run_start-begin.result in
    let slice : List HomeValue = take (end - begin) (drop begin changed) in
    let run : IsRun guards first changed end begin (get_or changed begin none) = run_of guards first changed end begin none c.run_start-begin.ensures.run c.loop-end.invariant.within c.loop-end.invariant.ends in
    let few : length slice ≡ end - begin = length-take-le (end - begin) (drop begin changed) (omega (arith, length-drop begin changed, c.loop-end.invariant.within)) in
    let guard_is : c.guard_of-guard.result ≡ guard_of guards (get_or changed begin none) = c.guard_of-guard.ensures.guard in
    let first_is : c.first_number.result ≡ first_in first (guard_of guards (get_or changed begin none)).0 = c.first_number.ensures ∙ ap (λ (o : ObjectId). first_in first o.0) guard_is in
    record {
      within = omega (arith, c.run_start-begin.ensures.run.below, c.loop-end.invariant.within);
      ends = run.ends;
      items = λ heap are.
          let rest : List UndoRecord = made heap (sections_of guards first (drop end changed)) in
          let values : All (HasValueIn heap) slice = All-take (HasValueIn heap) (end - begin) (drop begin changed) (All-drop (HasValueIn heap) begin changed are) in
          c.push_section.ensures.records heap values
          ∙ (λ i. c.loop-end.invariant.items heap are i ++ records_of heap (section_of (guard_is i) (first_is i) slice))
          ∙ append_assoc old rest (records_of heap (section_of (guard_of guards (get_or changed begin none)) (first_in first (guard_of guards (get_or changed begin none)).0) slice))
          ∙ ap (λ (xs : List HelperSection). old ++ made heap xs) (sym run.sections);
      len = omega (arith, c.push_section.ensures.len, few, run.needs, c.loop-end.invariant.len);
      words = λ k d le lt. elim (cases_lt k end) [ inl below ↦ c.run_start-begin.ensures.words k d le below | inr past ↦ c.loop-end.invariant.words k d past lt ];
      capacity = c.push_section.ensures.capacity ∙ c.loop-end.invariant.capacity;
    }

pub returns-clause-sections : goal.returns-clause-sections
returns-clause-sections c = λ s log next t are.
    let guards = c.args.guards.now in
    let first = c.args.first.now in
    let changed = c.args.changed.now in
    let heap : ℕ → ℕ = kept_by s log next in
    let values : All (HasValueIn heap) changed = All-weaker (IsKept s log next) (HasValueIn heap) (λ x kept. kept.value) changed are.each in
    let none_left : c.loop-end.end ≡ 0 = omega (arith, c.loop-end-test.false) in
    record {
      preceding = (stand guards first s log next changed are changed are.each (ordered guards first changed c.requires.sorted)).preceding;
      records = c.loop-end.invariant.items heap values
          ∙ (λ i. c.args.records.now.items ++ made heap (sections_of guards first (drop (none_left i) changed)))
          ∙ ap (λ (xs : List UndoRecord). c.args.records.now.items ++ xs) (made_undo t heap (sections_of guards first changed));
      stores = λ f. stores_to t heap f guards first changed;
    }

pub returns-clause-loggable : goal.returns-clause-loggable
returns-clause-loggable c = λ l s log next t limits objects fields last are.
    let guards = c.args.guards.now in
    let first = c.args.first.now in
    let changed = c.args.changed.now in
    let heap : ℕ → ℕ = kept_by s log next in
    let values : All (HasValueIn heap) changed = All-weaker (IsKept s log next) (HasValueIn heap) (λ x kept. kept.value) changed are.each in
    let words : All (λ (x : HomeValue). x.value < 2 ^ 64) changed = λ k d lt. c.loop-end.invariant.words k d (omega (arith, c.loop-end-test.false)) lt in
    let standing : Stand guards first s log next changed are (sections_of guards first changed) = stand guards first s log next changed are changed are.each (ordered guards first changed c.requires.sorted) in
    let loggable : All (IsLoggable l) (made heap (sections_of guards first changed)) =
    all_loggable l s (records_since next log) heap limits objects fields last (sections_of guards first changed) standing.preceding (words_of guards first heap changed values words) in
    subst (All (IsLoggable l)) (made_undo t heap (sections_of guards first changed)) loggable
