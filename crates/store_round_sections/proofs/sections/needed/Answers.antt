use Rattle.std.proofs.Common.{◌≡◌, ◌+◌, ◌-◌, ◌*◌, ◌≤◌, ℕ, List, [], drop, length, arith}
use Rattle.std.proofs.lemmas.List.{length-drop}
use Rattle.store_round_image.specs.declared.cells.HomeValue.{HomeValue}
use Rattle.store_round_sections.specs.Sections.{needed_of}
use Rattle.store_round_sections.proofs.Runs.{needs_few, needs_next}
use Rattle.store_round_sections.proofs.sections.needed.Goals as goal

abbrev none : HomeValue
none = record { field = record { 0 = 0 }; value = 0 }

pub overflow_add-records : goal.overflow_add-records
overflow_add-records c =
    let changed : List HomeValue = c.args.changed.now in
    let done : ℕ = c.loop-done.done in
    let more : c.loop-done.records + c.taken_at-records.result ≡ needed_of c.args.guards.now (drop (length changed - (done + 1)) changed) =
    needs_next c.args.guards.now [] changed done c.loop-done.records c.taken_at-records.result none c.loop-done-test.true (c.taken_at-records.ensures none) c.loop-done.invariant.sum in
    let few : needed_of c.args.guards.now (drop (length changed - (done + 1)) changed) ≤ 3 * length (drop (length changed - (done + 1)) changed) = needs_few c.args.guards.now [] (drop (length changed - (done + 1)) changed) in
    omega (arith, more, few, length-drop (length changed - (done + 1)) changed, c.well_formed.0.1)

pub loop-done-preserved : goal.loop-done-preserved
loop-done-preserved c = record {
  sum = needs_next c.args.guards.now [] c.args.changed.now c.loop-done.done c.loop-done.records c.taken_at-records.result none c.loop-done-test.true (c.taken_at-records.ensures none) c.loop-done.invariant.sum;
}
