use Rattle.std.proofs.Common.{◌≡◌, ◌+◌, ◌<◌, ◌∙◌, if◌then◌else◌, ℕ, List, ◌∷◌, length, take, get_or, slice_index, arith, None, Option, refl, sym, ap}
use Rattle.std.specs.Prelude.{nat_lt, slice_index_or}
use Rattle.std.proofs.lemmas.List.{take_more}
use Rattle.heap_model.specs.Log.{lane}
use Rattle.heap_model.specs.declared.record.UndoRecord.{UndoRecord}
use Rattle.image_parts.specs.declared.lane_row.LaneRow.{LaneRow}
use Rattle.undo_log.specs.StandsFor.{settled_of}
use Rattle.recover_heap.specs.Heap.{earlier, first_old, stored}
use Rattle.recover_logs.specs.Tables.{log_of}
use Rattle.recover_heap.proofs.HeapLemmas.{old_more, written_back}
use Rattle.heap_model.specs.declared.record.UndoRecord.TheVariants.{Acq}
use Rattle.recover_logs.specs.declared.step.Step.{Step}
use Rattle.recover_logs.proofs.ReplayLemmas.{log_more, zeros}
use Rattle.recover_logs.proofs.WalkLemmas.{few_places, places_more}
use Rattle.recover_heap.proofs.heap.old_values.Goals as goal

abbrev none : Step
none = record { lane = record { 0 = 0 }; entry = Acq (record { 0 = 0 }) 0 }

pub loop-step-init : goal.loop-step-init
loop-step-init c =
    record {
      lanes = refl;
      places = λ k. zeros 32 k;
      size = c.in_ok-before.ensures.size;
      each = λ f lt. c.in_ok-before.ensures.none f;
    }

pub count_next-is_settled-requires-clause-fits : goal.count_next-is_settled-requires-clause-fits
count_next-is_settled-requires-clause-fits c =
    let steps : List Step = c.args.steps.now in
    let i = c.loop-step.step-index in
    let lt : i < length steps = c.loop-step-test.true in
    let l : ℕ = (get_or steps i none).lane.0 in
    omega (arith, few_places steps i l (omega arith), c.loop-step.invariant.places l)

pub loop-step-preserved : goal.loop-step-preserved
loop-step-preserved c =
    let rows : List LaneRow = c.args.rows.now in
    let steps : List Step = c.args.steps.now in
    let i = c.loop-step.step-index in
    let lt : i < length steps = c.loop-step-test.true in
    let s : Step = get_or steps i none in
    let done : List (ℕ × UndoRecord) = log_of (take i steps) in
    let places : List ℕ = c.loop-step.places in
    let before : List (Option ℕ) = c.loop-step.before.items in
    let new : List (Option ℕ) = c.keep_first.new.values in
    let more : log_of (take (i + 1) steps) ≡ (s.lane.0, s.entry) ∷ done = ap log_of (take_more steps i none lt) ∙ log_more (take i steps) s in
    let at : slice_index places s.lane.0 ≡ length (lane s.lane.0 done) = c.loop-step.invariant.places s.lane.0 in
    let from : c.from.result ≡ s.lane.0 = c.from.ensures in
    let settled : c.count_next-is_settled.result ≡ nat_lt (length (lane s.lane.0 done)) (settled_of rows s.lane.0) =
    c.count_next-is_settled.ensures.settled ∙ ap (λ (k : ℕ). nat_lt (slice_index places s.lane.0) (settled_of rows k)) from ∙ ap (λ (k : ℕ). nat_lt k (settled_of rows s.lane.0)) at in
    let same : length c.deref_mut.result.now ≡ length before = ap (λ (xs : List (Option ℕ)). length xs) c.deref_mut.ensures.value in
    let long : length new ≡ length before = c.keep_first.ensures.size ∙ same in
    let back = written_back new before c.loop-step.before.len (c.keep_first.ensures.size ∙ c.deref_mut.ensures.len) in
    record {
      lanes = c.type_inv.places;
      places = λ k. ap (λ (xs : List ℕ). slice_index xs k) c.count_next-is_settled.ensures.counted
          ∙ places_more places done s.lane.0 k s.entry c.loop-step.invariant.lanes (c.requires.low i none lt).low c.loop-step.invariant.places
          ∙ ap (λ (d : List (ℕ × UndoRecord)). length (lane k d)) (sym more);
      size = ap (λ (xs : List (Option ℕ)). length xs) back ∙ long ∙ c.loop-step.invariant.size;
      each = λ f low. ap (λ (xs : List (Option ℕ)). slice_index_or xs f None) back
          ∙ old_more (settled_of rows) done s.lane.0 f s.entry (slice_index_or before f None) (slice_index_or new f None) c.count_next-is_settled.result (c.loop-step.invariant.each f low) settled
          (c.keep_first.ensures.each f (omega (arith, same, c.loop-step.invariant.size)) ∙ ap (λ (xs : List (Option ℕ)). earlier (slice_index_or xs f None) (if c.count_next-is_settled.result then None else stored f s.entry)) c.deref_mut.ensures.value)
          ∙ ap (first_old (settled_of rows) f) (sym more);
    }
