use Rattle.std.proofs.Common.{ℕ, slice_index, slice_set, refl, sym, ap, ◌∙◌, arith, get_or-set_same, get_or-set_other}
use Rattle.std.proofs.lemmas.List.{length-set}
use mathlib.Core.Logic.{dite}
use native.Mathlib.Decide.{ℕ_discrete}
use Rattle.store_memory.specs.Ends.{slot_of}
use Rattle.store_memory.proofs.Slots.{one_value}
use Rattle.store_memory.proofs.ends.places_behind.Goals as goal

pub loop-lane-init : goal.loop-lane-init
loop-lane-init c = record { behind = λ k lt. absurd (omega arith); none = λ k le. one_value 32 k 0; size = refl }

pub loop-lane-preserved : goal.loop-lane-preserved
loop-lane-preserved c = record {
  behind = λ k lt. dite (ℕ_discrete k c.loop-lane.lane)
      (λ same. ap (λ (j : ℕ). slice_index (slice_set c.loop-lane.places c.loop-lane.lane c.place_in.result) j) same
      ∙ get_or-set_same c.loop-lane.places c.loop-lane.lane c.place_in.result 0 (omega (arith, c.loop-lane.invariant.size, c.loop-lane-test.true, c.requires))
      ∙ c.place_in.ensures ∙ ap (λ (j : ℕ). slice_index c.args.ends.now j) c.slot.ensures ∙ ap (λ (j : ℕ). slice_index c.args.ends.now (slot_of c.args.capacity c.args.lanes j (slice_index c.args.counts.now j))) (sym same))
      (λ other. get_or-set_other c.loop-lane.places c.loop-lane.lane k _ 0 other ∙ c.loop-lane.invariant.behind k (omega arith));
  none = λ k le. get_or-set_other c.loop-lane.places c.loop-lane.lane k _ 0 (λ same. absurd (omega (arith, le, same))) ∙ c.loop-lane.invariant.none k (omega arith);
  size = length-set c.loop-lane.places c.loop-lane.lane c.place_in.result ∙ c.loop-lane.invariant.size;
}
