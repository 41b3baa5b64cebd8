use Rattle.std.proofs.Common.{ℕ, ◌≡◌, ◌+◌, ◌*◌, ◌<◌, ◌≤◌, [], List, length, replicate, slice_index, refl, rules, sym, ap, ◌∙◌, subst, arith}
use Rattle.std.specs.Prelude.{All, vec_capacity}
use Rattle.heap_model.specs.declared.record.LaneRecord.{LaneRecord}
use Rattle.heap_model.specs.Log.{lane, log_from}
use Rattle.store_round_memory.specs.Counting.{kept_takes, takes}
use Rattle.store_round_memory.specs.Surveys.{FitsLane, IsSurvey}
use Rattle.store_round_memory.proofs.Lists.{zero_at}
use Rattle.store_round_memory.proofs.store_round_memory.RoundMemory.new.Goals as goal

pub returns-clause-knows : goal.returns-clause-knows
returns-clause-knows c = λ s objects fields first.
    let items : c.in_ok-to_vec.field-0.items ≡ c.args.heap.now = c.in_ok-to_vec.ensures.items_if_clones_equal (λ x y same. same) in
    record {
      fields = ap (λ (xs : List ℕ). length xs) items ∙ sym fields;
      objects = c.in_ok-new.ensures.survey.first ∙ sym objects;
      kept = λ f lt. ap (λ (xs : List ℕ). slice_index xs f) items ∙ first f lt;
      beyond = ap (λ (xs : List LaneRecord). log_from xs) c.in_ok-with_capacity.ensures.items;
      starts = λ l lt. zero_at 32 l;
      taken = c.in_ok-new.ensures.taken;
    }

pub invariant_of-result : goal.invariant_of-result
invariant_of-result c =
    let none : c.in_ok-with_capacity.field-0.items ≡ [] = c.in_ok-with_capacity.ensures.items in
    let kept : length c.args.heap.now ≡ length c.in_ok-to_vec.field-0.items = ap (λ (xs : List ℕ). length xs) (sym (c.in_ok-to_vec.ensures.items_if_clones_equal (λ x y same. same))) in
    let made : IsSurvey c.args.objects (length c.args.heap.now) c.in_ok-new.field-0 = c.in_ok-new.ensures.survey in
    let room : c.args.lanes * c.args.capacity ≤ vec_capacity c.in_ok-with_capacity.field-0 = search rules in
    record {
      lanes = c.requires;
      rows = refl;
      room = room;
      fits = subst (All (FitsLane c.args.lanes (length c.in_ok-new.field-0.first.items) (length c.in_ok-to_vec.field-0.items))) (sym none) (λ k d lt. absurd (omega (arith, lt)));
      survey = subst (λ (n : ℕ). IsSurvey n (length c.in_ok-to_vec.field-0.items) c.in_ok-new.field-0) (sym made.first) (subst (λ (n : ℕ). IsSurvey c.args.objects n c.in_ok-new.field-0) kept made);
      rows_many = refl;
      rows_counted = refl;
      rows_fronts = refl;
      many = λ l under. zero_at 32 l ∙ ap (λ (xs : List LaneRecord). length (lane l (log_from xs))) (sym none);
      within = λ l under. omega arith;
      opened = λ o.
          let one : slice_index c.in_ok-new.field-0.open_takes.items o ≡ 0 = c.in_ok-new.ensures.none o in
          subst (λ (xs : List LaneRecord). slice_index c.in_ok-new.field-0.open_takes.items o + kept_takes (replicate 32 0) o (log_from xs) ≡ takes o (log_from xs)) (sym none) (omega (arith, one));
      fronts = λ l k d under lt. let low : k < 0 = subst (λ (n : ℕ). k < n) (zero_at 32 l) lt in absurd (omega (arith, low));
      fronts_within = λ l under. subst (λ (n : ℕ). n ≤ length c.in_ok-with_capacity.field-0.items) (sym (zero_at 32 l)) (omega arith);
    }
