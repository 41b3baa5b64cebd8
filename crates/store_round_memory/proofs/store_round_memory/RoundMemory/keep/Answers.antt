use Rattle.std.proofs.Common.{ℕ, ◌≡◌, ◌≢◌, ◌<◌, ◌≤◌, List, get_or, length, replicate, slice_index, take, refl, rules, sym, ap, ◌∙◌, subst, arith}
use Rattle.std.specs.Prelude.{All, Contains}
use Rattle.std.specs.Vec.{with_items}
use Rattle.std.proofs.lemmas.List.{with_items_is}
use Rattle.heap_model.specs.declared.record.LaneRecord.{LaneRecord}
use Rattle.heap_model.specs.Log.{log_from}
use Rattle.store_round_image.specs.Turning.{fields_of}
use Rattle.store_round_image.specs.declared.cells.HomeValue.{HomeValue}
use Rattle.store_round_memory.specs.Counting.{records_left}
use Rattle.store_round_memory.specs.Rounds.{Rounds}
use Rattle.store_round_memory.specs.Surveys.{AreFronts, FitsLane, HasLane, IsSurvey}
use Rattle.store_round_memory.proofs.Adding.{apart_at, each_lane, fronts_before, left_fits, left_lanes, left_log, left_long, left_many, left_open, made_left}
use Rattle.store_round_memory.proofs.Knowing.{knows_next}
use Rattle.store_round_memory.proofs.Lists.{zero_at}
use Rattle.store_round_memory.proofs.Writing.{Once}
use Rattle.store_round_memory.proofs.store_round_memory.RoundMemory.keep.Goals as goal

pub leave-left-requires-clause-lanes : goal.leave-left-requires-clause-lanes
leave-left-requires-clause-lanes c = each_lane c.self.inside c.args.self.now c.self.view_is c.self.invariant c.deref_mut-2.result.now c.deref_mut-2.ensures.value

pub leave-left-requires-clause-apart : goal.leave-left-requires-clause-apart
leave-left-requires-clause-apart c =
    let le : c.first_place-from.result ≤ length c.deref_mut-2.result.now = search rules in
    apart_at c.self.inside c.args.self.now c.self.view_is c.self.invariant c.deref_mut-2.result.now c.deref_mut-2.ensures.value c.self.inside.counted c.first_place-from.result le c.first_place-from.ensures.front

pub move_fronts-requires-clause-lanes : goal.move_fronts-requires-clause-lanes
move_fronts-requires-clause-lanes c = subst (All HasLane) (sym c.deref-2.ensures.value) (left_lanes c.self.inside c.args.self.now c.self.view_is c.self.invariant c.leave-left.new.records c.truncate.new.self.items c.first_place-from.result c.leave-left.result
    (made_left c.self.inside c.deref_mut-2.result.now c.leave-left.new.records c.truncate.new.self.items c.first_place-from.result c.leave-left.result c.deref_mut-2.ensures.value c.leave-left.ensures.size c.leave-left.ensures.within c.leave-left.ensures.front c.leave-left.ensures.before c.leave-left.ensures.left
    (c.truncate.ensures.items ∙ ap (take c.leave-left.result) (with_items_is c.self.inside.beyond c.leave-left.new.records (c.leave-left.ensures.size ∙ c.deref_mut-2.ensures.len)))))

pub move_fronts-requires-clause-from : goal.move_fronts-requires-clause-from
move_fronts-requires-clause-from c = omega (
  arith,
  c.leave-left.ensures.front,
  ap (λ (xs : List LaneRecord). length xs) c.deref-2.ensures.value,
  left_long c.self.inside c.args.self.now c.self.view_is c.self.invariant c.leave-left.new.records c.truncate.new.self.items c.first_place-from.result c.leave-left.result
      (made_left c.self.inside c.deref_mut-2.result.now c.leave-left.new.records c.truncate.new.self.items c.first_place-from.result c.leave-left.result c.deref_mut-2.ensures.value c.leave-left.ensures.size c.leave-left.ensures.within c.leave-left.ensures.front c.leave-left.ensures.before c.leave-left.ensures.left
      (c.truncate.ensures.items ∙ ap (take c.leave-left.result) (with_items_is c.self.inside.beyond c.leave-left.new.records (c.leave-left.ensures.size ∙ c.deref_mut-2.ensures.len)))),
)

pub move_fronts-requires-clause-fronts : goal.move_fronts-requires-clause-fronts
move_fronts-requires-clause-fronts c = subst (λ (xs : List LaneRecord). (l k : ℕ) (d : LaneRecord) → l < 32 → k < slice_index c.self.inside.fronts l → k < c.first_place-from.result → (get_or xs k d).lane.0 ≢ l) (sym c.deref-2.ensures.value)
    (fronts_before c.self.inside c.args.self.now c.self.view_is c.self.invariant c.leave-left.new.records c.truncate.new.self.items c.first_place-from.result c.leave-left.result
    (made_left c.self.inside c.deref_mut-2.result.now c.leave-left.new.records c.truncate.new.self.items c.first_place-from.result c.leave-left.result c.deref_mut-2.ensures.value c.leave-left.ensures.size c.leave-left.ensures.within c.leave-left.ensures.front c.leave-left.ensures.before c.leave-left.ensures.left
    (c.truncate.ensures.items ∙ ap (take c.leave-left.result) (with_items_is c.self.inside.beyond c.leave-left.new.records (c.leave-left.ensures.size ∙ c.deref_mut-2.ensures.len)))))

pub invariant_of-self : goal.invariant_of-self
invariant_of-self c =
    let objects : ℕ = length c.self.inside.found.first.items in
    let fields : ℕ = length c.self.inside.kept.items in
    let kept : (with_items c.self.inside.kept c.write_all.new.heap).items ≡ c.write_all.new.heap = with_items_is c.self.inside.kept c.write_all.new.heap (c.write_all.ensures.size ∙ c.deref_mut.ensures.len) in
    let long : length (with_items c.self.inside.kept c.write_all.new.heap).items ≡ fields =
    ap (λ (xs : List ℕ). length xs) kept ∙ c.write_all.ensures.size ∙ ap (λ (xs : List ℕ). length xs) c.deref_mut.ensures.value in
    record {
      lanes = c.self.invariant.lanes;
      rows = c.told-places;
      room = omega (arith, c.self.invariant.room, c.truncate.ensures.capacity);
      fits = subst (λ (n : ℕ). All (FitsLane c.self.inside.lanes objects n) c.truncate.new.self.items) (sym long) (left_fits c.self.inside c.args.self.now c.self.view_is c.self.invariant c.leave-left.new.records c.truncate.new.self.items c.first_place-from.result c.leave-left.result
          (made_left c.self.inside c.deref_mut-2.result.now c.leave-left.new.records c.truncate.new.self.items c.first_place-from.result c.leave-left.result c.deref_mut-2.ensures.value c.leave-left.ensures.size c.leave-left.ensures.within c.leave-left.ensures.front c.leave-left.ensures.before c.leave-left.ensures.left
          (c.truncate.ensures.items ∙ ap (take c.leave-left.result) (with_items_is c.self.inside.beyond c.leave-left.new.records (c.leave-left.ensures.size ∙ c.deref_mut-2.ensures.len)))));
      survey = subst (λ (n : ℕ). IsSurvey objects n c.self.inside.found) (sym long) c.self.invariant.survey;
      rows_many = c.counts_between-self-inside.ensures.long;
      rows_counted = refl;
      rows_fronts = c.move_fronts.ensures.long;
      many = left_many c.self.inside c.args.self.now c.self.view_is c.self.invariant c.leave-left.new.records c.truncate.new.self.items c.first_place-from.result c.leave-left.result
          (made_left c.self.inside c.deref_mut-2.result.now c.leave-left.new.records c.truncate.new.self.items c.first_place-from.result c.leave-left.result c.deref_mut-2.ensures.value c.leave-left.ensures.size c.leave-left.ensures.within c.leave-left.ensures.front c.leave-left.ensures.before c.leave-left.ensures.left
          (c.truncate.ensures.items ∙ ap (take c.leave-left.result) (with_items_is c.self.inside.beyond c.leave-left.new.records (c.leave-left.ensures.size ∙ c.deref_mut-2.ensures.len)))) c.counts_between-self-inside.result c.counts_between-self-inside.ensures.between;
      within = λ l under. omega (arith, zero_at 32 l);
      opened = left_open c.self.inside c.args.self.now c.self.view_is c.self.invariant c.leave-left.new.records c.truncate.new.self.items c.first_place-from.result c.leave-left.result
          (made_left c.self.inside c.deref_mut-2.result.now c.leave-left.new.records c.truncate.new.self.items c.first_place-from.result c.leave-left.result c.deref_mut-2.ensures.value c.leave-left.ensures.size c.leave-left.ensures.within c.leave-left.ensures.front c.leave-left.ensures.before c.leave-left.ensures.left
          (c.truncate.ensures.items ∙ ap (take c.leave-left.result) (with_items_is c.self.inside.beyond c.leave-left.new.records (c.leave-left.ensures.size ∙ c.deref_mut-2.ensures.len)))) (replicate 32 0) (zero_at 32);
      fronts = subst (λ (xs : List LaneRecord). AreFronts xs c.move_fronts.new.fronts) c.deref-2.ensures.value c.move_fronts.ensures.fronts;
      fronts_within = subst (λ (xs : List LaneRecord). (l : ℕ) → l < 32 → slice_index c.move_fronts.new.fronts l ≤ length xs) c.deref-2.ensures.value c.move_fronts.ensures.within;
    }

pub returns-clause-knows : goal.returns-clause-knows
returns-clause-knows c = λ s p next may found.
    let changed : c.deref.result.now ≡ c.args.self.now.changed = c.deref.ensures.value ∙ ap (λ (r : Rounds). r.changed) c.self.view_is in
    let kept : c.deref_mut.result.now ≡ c.args.self.now.kept = c.deref_mut.ensures.value ∙ ap (λ (r : Rounds). r.kept) c.self.view_is in
    knows_next s c.args.self.now p next c.args.places.now may found c.write_all.new.heap
    (c.write_all.ensures.size ∙ ap (λ (xs : List ℕ). length xs) kept)
    (subst (λ (cs : List HomeValue). Once cs → All (λ x. slice_index c.write_all.new.heap x.field.0 ≡ x.value) cs) changed c.write_all.ensures.written)
    (subst (λ (xs : List ℕ). (f : ℕ) → (Contains (fields_of c.args.self.now.changed) f → ⊥) → slice_index c.write_all.new.heap f ≡ slice_index xs f) kept
    (subst (λ (cs : List HomeValue). (f : ℕ) → (Contains (fields_of cs) f → ⊥) → slice_index c.write_all.new.heap f ≡ slice_index c.deref_mut.result.now f) changed c.write_all.ensures.others))
    _ (with_items_is c.self.inside.kept c.write_all.new.heap (c.write_all.ensures.size ∙ c.deref_mut.ensures.len)) (ap (λ (r : Rounds). r.first) c.self.view_is) (ap (λ (r : Rounds). r.lanes) c.self.view_is) refl
    (left_log c.self.inside c.args.self.now c.self.view_is c.self.invariant c.leave-left.new.records c.truncate.new.self.items c.first_place-from.result c.leave-left.result
    (made_left c.self.inside c.deref_mut-2.result.now c.leave-left.new.records c.truncate.new.self.items c.first_place-from.result c.leave-left.result c.deref_mut-2.ensures.value c.leave-left.ensures.size c.leave-left.ensures.within c.leave-left.ensures.front c.leave-left.ensures.before c.leave-left.ensures.left
    (c.truncate.ensures.items ∙ ap (take c.leave-left.result) (with_items_is c.self.inside.beyond c.leave-left.new.records (c.leave-left.ensures.size ∙ c.deref_mut-2.ensures.len))))
    ∙ ap (λ (r : Rounds). records_left r.counted (log_from r.beyond)) c.self.view_is ∙ found.beyond)
    (ap (λ (r : Rounds). r.taken) c.self.view_is)
