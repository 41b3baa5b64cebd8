use Rattle.std.proofs.Common.{ℕ, ◌≡◌, ◌<◌, ◌≤◌, ◌++◌, [], ◌∷◌, List, length, slice_index, refl, rules, sym, ap, ◌∙◌, subst, arith}
use Rattle.std.specs.Prelude.{All}
use Rattle.heap_model.specs.declared.record.LaneRecord.{LaneRecord}
use Rattle.heap_model.specs.Log.{log_from}
use Rattle.store_round_memory.specs.Counting.{Counts}
use Rattle.store_round_memory.specs.Rounds.{Rounds}
use Rattle.store_round_memory.specs.Surveys.{AreFronts, AreOpen, FitsLane, IsSurvey}
use Rattle.store_round_memory.proofs.Adding.{fits, fronts_low, fronts_more, grown, low, many_few, many_long, many_more, open_few, open_more, room, within_more}
use Rattle.store_round_memory.proofs.Knowing.{knows_more, taken_more}
use Rattle.store_round_memory.proofs.store_round_memory.RoundMemory.add.Goals as goal

pub begin-requires : goal.begin-requires
begin-requires c = low c.self.inside c.args.self.now c.self.view_is c.self.invariant c.requires.may.0 c.requires.may.1 c.requires.may.2 c.args.next c.requires.may.3

pub count-requires-clause-lane : goal.count-requires-clause-lane
count-requires-clause-lane c = low c.self.inside c.args.self.now c.self.view_is c.self.invariant c.requires.may.0 c.requires.may.1 c.requires.may.2 c.args.next c.requires.may.3

pub count-requires-clause-low : goal.count-requires-clause-low
count-requires-clause-low c = omega (
  arith,
  many_few c.self.inside c.args.self.now c.self.view_is c.self.invariant c.args.next.lane.0 (low c.self.inside c.args.self.now c.self.view_is c.self.invariant c.requires.may.0 c.requires.may.1 c.requires.may.2 c.args.next c.requires.may.3),
  c.self.inside.beyond.ok,
)

pub take-requires-clause-survey : goal.take-requires-clause-survey
take-requires-clause-survey c = (
  length c.self.inside.found.first.items,
  length c.self.inside.kept.items,
  c.self.invariant.survey,
  fits c.self.inside c.args.self.now c.self.view_is c.self.invariant c.requires.may.0 c.requires.may.1 c.requires.may.2 c.args.next c.requires.may.3,
)

pub take-requires-clause-few : goal.take-requires-clause-few
take-requires-clause-few c = λ o. omega (arith, open_few c.self.inside c.args.self.now c.self.view_is c.self.invariant o, c.self.inside.beyond.ok)

pub push_reserved-requires : goal.push_reserved-requires
push_reserved-requires c = omega (
  arith,
  room c.self.inside c.args.self.now c.self.view_is c.self.invariant c.requires.may.0 c.requires.may.1 c.requires.may.2 c.args.next c.requires.may.3,
  c.self.inside.beyond.ok.0,
)

pub invariant_of-self : goal.invariant_of-self
invariant_of-self c =
    let size : c.len.result ≡ length c.self.inside.beyond.items = search rules in
    let all : c.push_reserved.new.self.items ≡ c.self.inside.beyond.items ++ c.args.next ∷ [] = c.push_reserved.ensures.items in
    let made : IsSurvey (length c.self.inside.found.first.items) (length c.self.inside.kept.items) c.take.new.self = c.take.ensures.survey (length c.self.inside.found.first.items) (length c.self.inside.kept.items) c.self.invariant.survey in
    record {
      lanes = c.self.invariant.lanes;
      rows = c.self.invariant.rows;
      room = omega (arith, c.self.invariant.room, c.push_reserved.ensures.capacity);
      fits = subst (λ (n : ℕ). All (FitsLane c.self.inside.lanes n (length c.self.inside.kept.items)) c.push_reserved.new.self.items) (sym made.first)
          (subst (All (FitsLane c.self.inside.lanes (length c.self.inside.found.first.items) (length c.self.inside.kept.items))) (sym all)
          (grown c.self.inside c.args.self.now c.self.view_is c.self.invariant c.requires.may.0 c.requires.may.1 c.requires.may.2 c.args.next c.requires.may.3));
      survey = subst (λ (n : ℕ). IsSurvey n (length c.self.inside.kept.items) c.take.new.self) (sym made.first) made;
      rows_many = many_long c.self.inside c.args.self.now c.self.view_is c.self.invariant c.requires.may.0 c.requires.may.1 c.requires.may.2 c.args.next c.requires.may.3 _ c.count.ensures;
      rows_counted = c.self.invariant.rows_counted;
      rows_fronts = c.begin.ensures.long;
      many = subst (λ (xs : List LaneRecord). Counts c.count.new.counts (log_from xs)) (sym all)
          (many_more c.self.inside c.args.self.now c.self.view_is c.self.invariant c.requires.may.0 c.requires.may.1 c.requires.may.2 c.args.next c.requires.may.3 _ c.count.ensures);
      within = within_more c.self.inside c.args.self.now c.self.view_is c.self.invariant c.requires.may.0 c.requires.may.1 c.requires.may.2 c.args.next c.requires.may.3 _ c.count.ensures;
      opened = subst (λ (xs : List LaneRecord). AreOpen c.self.inside.counted (log_from xs) c.take.new.self) (sym all)
          (open_more c.self.inside c.args.self.now c.self.view_is c.self.invariant c.requires.may.0 c.requires.may.1 c.requires.may.2 c.args.next c.requires.may.3 _ c.count.ensures c.take.new.self c.take.ensures.opened);
      fronts = subst (λ (xs : List LaneRecord). AreFronts xs c.begin.new.fronts) (sym all)
          (fronts_more c.self.inside c.args.self.now c.self.view_is c.self.invariant c.requires.may.0 c.requires.may.1 c.requires.may.2 c.args.next c.requires.may.3 c.begin.new.fronts c.len.result size c.begin.ensures.set);
      fronts_within = subst (λ (xs : List LaneRecord). (l : ℕ) → l < 32 → slice_index c.begin.new.fronts l ≤ length xs) (sym all)
          (fronts_low c.self.inside c.args.self.now c.self.view_is c.self.invariant c.requires.may.0 c.requires.may.1 c.requires.may.2 c.args.next c.requires.may.3 c.begin.new.fronts c.len.result size c.begin.ensures.set);
    }

pub returns-clause-knows : goal.returns-clause-knows
returns-clause-knows c = λ s p may is.
    let made : IsSurvey (length c.self.inside.found.first.items) (length c.self.inside.kept.items) c.take.new.self = c.take.ensures.survey (length c.self.inside.found.first.items) (length c.self.inside.kept.items) c.self.invariant.survey in
    knows_more s c.args.self.now p (c.args.next ∷ []) may is _
    (ap (λ (r : Rounds). r.kept) c.self.view_is) (made.first ∙ ap (λ (r : Rounds). length r.first) c.self.view_is) (ap (λ (r : Rounds). r.lanes) c.self.view_is) (ap (λ (r : Rounds). r.starts) c.self.view_is)
    (c.push_reserved.ensures.items ∙ ap (λ (r : Rounds). r.beyond ++ c.args.next ∷ []) c.self.view_is)
    (λ o. c.take.ensures.taken o ∙ taken_more s c.args.self.now p (c.args.next ∷ []) may is c.args.next refl o (slice_index c.self.inside.found.taken.items o) (ap (λ (r : Rounds). slice_index r.taken o) c.self.view_is))

pub returns-clause-found : goal.returns-clause-found
returns-clause-found c = record {
  lanes = ap (λ (r : Rounds). r.lanes) c.self.view_is;
  capacity = ap (λ (r : Rounds). r.capacity) c.self.view_is;
  changed = ap (λ x. x.items) c.take.ensures.changed ∙ ap (λ (r : Rounds). r.changed) c.self.view_is;
  marks = ap (λ x. x.items) c.take.ensures.marks ∙ ap (λ (r : Rounds). r.marks) c.self.view_is;
}
