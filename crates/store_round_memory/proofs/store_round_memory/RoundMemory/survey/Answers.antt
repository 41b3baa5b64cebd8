use Rattle.std.proofs.Common.{ℕ, ◌≡◌, ◌-◌, ◌<◌, ◌≤◌, [], List, length, slice_index, refl, rules, sym, ap, ◌∙◌, subst}
use Rattle.std.specs.Prelude.{All}
use Rattle.heap_model.specs.declared.record.LaneRecord.{LaneRecord}
use Rattle.heap_model.specs.Log.{log_from}
use Rattle.store_round_memory.specs.Counting.{Counts}
use Rattle.store_round_memory.specs.Rounds.{Rounds}
use Rattle.store_round_memory.specs.Surveys.{AreAllOpen, FitsLane, IsSurvey, TellsDownTo}
use Rattle.store_round_memory.proofs.Adding.{apart_at, can_survey, many_are, open_found, opens}
use Rattle.store_round_memory.proofs.Knowing.{has_found}
use Rattle.store_round_memory.proofs.store_round_memory.RoundMemory.survey.Goals as goal

pub forget-requires-clause-survey : goal.forget-requires-clause-survey
forget-requires-clause-survey c = can_survey c.self.inside c.args.self.now c.self.view_is c.self.invariant c.deref.result.now c.deref.ensures.value c.self.inside.found c.self.invariant.survey

pub forget-requires-clause-many : goal.forget-requires-clause-many
forget-requires-clause-many c = many_are c.self.inside c.args.self.now c.self.view_is c.self.invariant c.deref.result.now c.deref.ensures.value

pub forget-requires-clause-apart : goal.forget-requires-clause-apart
forget-requires-clause-apart c =
    let le : c.first_place-was.result ≤ length c.deref.result.now = search rules in
    apart_at c.self.inside c.args.self.now c.self.view_is c.self.invariant c.deref.result.now c.deref.ensures.value c.self.inside.counted c.first_place-was.result le c.first_place-was.ensures.front

pub forget-requires-clause-opened : goal.forget-requires-clause-opened
forget-requires-clause-opened c = opens c.self.inside c.args.self.now c.self.view_is c.self.invariant c.deref.result.now c.deref.ensures.value

pub find-requires-clause-survey : goal.find-requires-clause-survey
find-requires-clause-survey c = can_survey c.self.inside c.args.self.now c.self.view_is c.self.invariant c.deref-2.result.now c.deref-2.ensures.value c.forget.new.self
    (c.forget.ensures.survey (length c.self.inside.found.first.items) (length c.self.inside.kept.items) c.self.invariant.survey)

pub find-requires-clause-many : goal.find-requires-clause-many
find-requires-clause-many c = many_are c.self.inside c.args.self.now c.self.view_is c.self.invariant c.deref-2.result.now c.deref-2.ensures.value

pub find-requires-clause-apart : goal.find-requires-clause-apart
find-requires-clause-apart c =
    let le : c.first_place-from.result ≤ length c.deref-2.result.now = search rules in
    apart_at c.self.inside c.args.self.now c.self.view_is c.self.invariant c.deref-2.result.now c.deref-2.ensures.value c.at_most-self-inside.result c.first_place-from.result le c.first_place-from.ensures.front

pub find-requires-clause-opened : goal.find-requires-clause-opened
find-requires-clause-opened c = subst (λ (xs : List LaneRecord). AreAllOpen (log_from xs) c.forget.new.self) (c.deref.ensures.value ∙ sym c.deref-2.ensures.value) c.forget.ensures.opened

pub invariant_of-self : goal.invariant_of-self
invariant_of-self c =
    let objects : ℕ = length c.self.inside.found.first.items in
    let fields : ℕ = length c.self.inside.kept.items in
    let made : IsSurvey objects fields c.find.new.self = c.find.ensures.survey objects fields (c.forget.ensures.survey objects fields c.self.invariant.survey) in
    record {
      lanes = c.self.invariant.lanes;
      rows = c.self.invariant.rows;
      room = c.self.invariant.room;
      fits = subst (λ (n : ℕ). All (FitsLane c.self.inside.lanes n fields) c.self.inside.beyond.items) (sym made.first) c.self.invariant.fits;
      survey = subst (λ (n : ℕ). IsSurvey n fields c.find.new.self) (sym made.first) made;
      rows_many = c.self.invariant.rows_many;
      rows_counted = c.at_most-self-inside.ensures.long;
      rows_fronts = c.self.invariant.rows_fronts;
      many = c.self.invariant.many;
      within = c.at_most-self-inside.ensures.within;
      opened = open_found c.self.inside c.args.self.now c.self.view_is c.self.invariant c.at_most-self-inside.result c.find.new.self
          (subst (λ (xs : List LaneRecord). TellsDownTo c.at_most-self-inside.result (log_from xs) [] c.find.new.self) c.deref-2.ensures.value c.find.ensures.tells);
      fronts = c.self.invariant.fronts;
      fronts_within = c.self.invariant.fronts_within;
    }

pub returns-clause-found : goal.returns-clause-found
returns-clause-found c = λ s p next may.
    let objects : ℕ = length c.self.inside.found.first.items in
    let fields : ℕ = length c.self.inside.kept.items in
    let made : IsSurvey objects fields c.find.new.self = c.find.ensures.survey objects fields (c.forget.ensures.survey objects fields c.self.invariant.survey) in
    has_found s c.args.self.now p next c.args.places.now c.counts_between.result c.at_most-self-inside.result c.self.inside.many may objects fields
    (subst (λ (r : Rounds). r.lanes ≤ 32) c.self.view_is c.self.invariant.lanes)
    (subst (λ (r : Rounds). All (FitsLane r.lanes objects fields) r.beyond) c.self.view_is c.self.invariant.fits)
    (subst (λ (r : Rounds). (l : ℕ) → l < 32 → slice_index c.counts_between.result l ≡ slice_index c.args.places.now l - slice_index r.starts l) c.self.view_is c.counts_between.ensures.between)
    (subst (λ (r : Rounds). Counts c.self.inside.many (log_from r.beyond)) c.self.view_is c.self.invariant.many)
    c.at_most-self-inside.ensures.same
    c.find.new.self made
    (subst (λ (r : Rounds). TellsDownTo c.at_most-self-inside.result (log_from r.beyond) [] c.find.new.self) c.self.view_is
    (subst (λ (xs : List LaneRecord). TellsDownTo c.at_most-self-inside.result (log_from xs) [] c.find.new.self) c.deref-2.ensures.value c.find.ensures.tells))
    _ (ap (λ (r : Rounds). length r.kept) c.self.view_is ∙ may.knows.fields) refl refl refl
    (c.find.ensures.taken ∙ c.forget.ensures.taken ∙ ap (λ (r : Rounds). r.taken) c.self.view_is) refl (ap (λ (r : Rounds). r.beyond) c.self.view_is)

pub returns-clause-only : goal.returns-clause-only
returns-clause-only c =
    let objects : ℕ = length c.self.inside.found.first.items in
    let fields : ℕ = length c.self.inside.kept.items in
    let made : IsSurvey objects fields c.find.new.self = c.find.ensures.survey objects fields (c.forget.ensures.survey objects fields c.self.invariant.survey) in
    record {
      lanes = ap (λ (r : Rounds). r.lanes) c.self.view_is;
      capacity = ap (λ (r : Rounds). r.capacity) c.self.view_is;
      kept = ap (λ (r : Rounds). r.kept) c.self.view_is;
      beyond = ap (λ (r : Rounds). r.beyond) c.self.view_is;
      starts = ap (λ (r : Rounds). r.starts) c.self.view_is;
      objects = made.first ∙ ap (λ (r : Rounds). length r.first) c.self.view_is;
      taken = c.find.ensures.taken ∙ c.forget.ensures.taken ∙ ap (λ (r : Rounds). r.taken) c.self.view_is;
    }
