use Rattle.std.proofs.Common.{ℕ, ◌≡◌, ◌+◌, ◌∷◌, ◌++◌, ◌==◌, if◌then◌else◌, length, List, refl, sym, ap, ◌∙◌, subst, arith}
use Rattle.std.proofs.lemmas.List.{append-nil}
use Rattle.monitor.specs.Words.{setting_of}
use Rattle.trim_helper.specs.Helping.{taken_in}
use Rattle.trim_helper.specs.Endings.{AreEnded, HoldNone, count_lane, parts_of, count_read, place_read}
use Rattle.trim_helper.specs.Meeting.{HaveMet, count_parts}
use Rattle.trim_helper.specs.Serving.{Part}
use Rattle.trim_helper.proofs.RingMoves.{looks_none, looks_then}
use Rattle.trim_helper.proofs.Gathering.{end_below, met_more, met_none, are_same, are_last, parts_last, none_last, count_last, count_more, counts_among, unmet, counts_on, count_empty}
use Rattle.trim_helper.proofs.Seeing.{sight_refl, sight_then}
use Rattle.trim_helper.proofs.meeting.meet.Goals as goal

pub ends-init : goal.ends-init
ends-init c = record {
  ended = c.requires.ended;
  none = c.requires.none;
  met = subst (λ parts. HaveMet (setting_of c.args.shared.now.plan) c.args.rings.now parts c.args.capacity) (sym c.requires.nothing) (met_none (setting_of c.args.shared.now.plan) c.args.rings.now c.args.capacity);
  looks = looks_none c.args.rings.now;
  helper = c.requires.helper;
  count = λ l. refl;
  place = λ l. refl;
  notes = refl;
  sight = sight_refl c.args.seat.now;
  counts = λ k. let none = ap (λ (xs : List Part). count_parts k xs) c.requires.nothing in omega arith;
  parts = ap (λ (xs : List Part). parts_of c.args.ended.items ++ xs) c.requires.nothing ∙ append-nil (parts_of c.args.ended.items);
}

pub meet_one-requires-clause-one : goal.meet_one-requires-clause-one
meet_one-requires-clause-one c =
    (are_last c.args.shared.now c.args.capacity c.ends.rings c.pop.new.self.items c.in-Some.one
    (subst (λ es. AreEnded c.args.shared.now c.args.capacity c.ends.rings es) c.in-Some.ensures.items c.ends.invariant.ended)).1

pub ends-preserved : goal.ends-preserved
ends-preserved c =
    let are = are_last c.args.shared.now c.args.capacity c.ends.rings c.pop.new.self.items c.in-Some.one
    (subst (λ es. AreEnded c.args.shared.now c.args.capacity c.ends.rings es) c.in-Some.ensures.items c.ends.invariant.ended) in
    let none = none_last c.pop.new.self.items c.in-Some.one (subst HoldNone c.in-Some.ensures.items c.ends.invariant.none) in
    let one = are.1 in
    let seat = c.in-Some.one.seat in
    let lane : ℕ = c.in-Some.one.lane.0 in
    let low = end_below c.in-Some.one.producer c.ends.rings lane one.ring in
    let x : Part = record { lane = lane; events = seat.view.events; count = count_read seat; place = place_read seat } in
    let before : List Part = taken_in c.ends.seat in
    let gathered : taken_in c.meet_one.new.seat ≡ x ∷ before = c.meet_one.ensures.gathered ∙ ap (λ k. record { lane = k; events = seat.view.events; count = count_read seat; place = place_read seat } ∷ before) (sym one.lane) in
    let counted : (k : ℕ) → count_lane k c.ends.left.items ≡ count_lane k c.pop.new.self.items + (if lane == k then 1 else 0) = λ k. ap (λ es. count_lane k es) c.in-Some.ensures.items ∙ count_last k c.pop.new.self.items c.in-Some.one in
    record {
      ended = are_same c.args.shared.now c.args.capacity c.ends.rings c.meet_one.new.rings c.pop.new.self.items c.meet_one.ensures.looks.same are.0;
      none = none.0;
      met = subst (λ parts. HaveMet (setting_of c.args.shared.now.plan) c.meet_one.new.rings parts c.args.capacity) (sym gathered)
          (met_more (setting_of c.args.shared.now.plan) c.ends.rings c.meet_one.new.rings before c.args.capacity x c.ends.invariant.met c.meet_one.ensures.looks c.meet_one.ensures.others (c.meet_one.ensures.fifo ∙ one.all_sent)
          (unmet before lane _ _ (counted lane) (c.ends.invariant.counts lane) (c.requires.complete lane (omega (arith, low, c.ends.invariant.looks.same.count))))
          one.limits (sym one.held ∙ none.1));
      looks = looks_then _ _ _ c.ends.invariant.looks c.meet_one.ensures.looks;
      helper = c.meet_one.ensures.helper;
      count = λ l. c.meet_one.ensures.count l ∙ c.ends.invariant.count l;
      place = λ l. c.meet_one.ensures.place l ∙ c.ends.invariant.place l;
      notes = c.meet_one.ensures.notes ∙ c.ends.invariant.notes;
      sight = sight_then _ _ _ c.ends.invariant.sight c.meet_one.ensures.sight;
      counts = λ k. ap (λ parts. count_lane k c.pop.new.self.items + count_parts k parts) gathered ∙ counts_on _ _ _ _ _ _ (counted k) (count_more k x before) (c.ends.invariant.counts k);
      parts = ap (λ (xs : List Part). parts_of c.pop.new.self.items ++ xs) c.meet_one.ensures.gathered
          ∙ sym (parts_last c.pop.new.self.items c.in-Some.one before)
          ∙ ap (λ es. parts_of es ++ before) (sym c.in-Some.ensures.items) ∙ c.ends.invariant.parts;
    }

pub returns-clause-present : goal.returns-clause-present
returns-clause-present c = λ l lt.
    let none = c.in_default.ensures.cases in
    let left : length c.ends.left.items ≡ 0 = omega (arith, c.ends.left.ok, none.0) in
    counts_among (taken_in c.ends.seat) l (omega (arith, count_empty l c.ends.left.items left, c.ends.invariant.counts l, c.requires.complete l lt))
