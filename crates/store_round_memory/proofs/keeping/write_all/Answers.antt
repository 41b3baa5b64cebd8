use Rattle.std.proofs.Common.{ℕ, List, get_or, length, slice_index, ap, ◌∙◌}
use Rattle.std.proofs.lemmas.List.{length-set}
use Rattle.store_round_memory.proofs.Writing.{field_low, others_stay, written_more}
use Rattle.store_round_memory.proofs.keeping.write_all.Goals as goal

pub loop-change-preserved : goal.loop-change-preserved
loop-change-preserved c = record {
  size = ap (λ (xs : List ℕ). length xs) c.write.ensures ∙ length-set c.loop-change.heap _ _ ∙ c.loop-change.invariant.size;
  written = λ once k d within. ap (λ (xs : List ℕ). slice_index xs (get_or c.args.changed.now k d).field.0) c.write.ensures
      ∙ written_more c.loop-change.heap c.args.changed.now c.loop-change.change-index _ c.loop-change-test.true
      (field_low (length c.args.heap.now) (length c.loop-change.heap) c.args.changed.now c.loop-change.change-index _ c.loop-change-test.true c.loop-change.invariant.size c.requires)
      once (c.loop-change.invariant.written once) k d within;
  others = λ f none. ap (λ (xs : List ℕ). slice_index xs f) c.write.ensures ∙ others_stay c.loop-change.heap c.args.changed.now c.loop-change.change-index _ f c.loop-change-test.true none ∙ c.loop-change.invariant.others f none;
}
