use Rattle.std.specs.Prelude.{All}
use Rattle.heap_model.specs.declared.record.LaneRecord.{LaneRecord}
use Rattle.heap_model.specs.declared.record.Record.TheVariants.{Acq}
use Rattle.std.proofs.Common.{ℕ, ◌≡◌, ◌-◌, ◌<◌, List, get_or, length, slice_index, subst, sym, arith}
use Rattle.std.proofs.lemmas.List.Elements.{All-get_or}
use Rattle.store_round_making.specs.Beyond.{IsOfFields}
use Rattle.store_round_making.proofs.BeyondLemmas.{all_back, back_next}
use Rattle.store_round_making.proofs.beyond.put_back.Goals as goal

pub put_one_back-requires : goal.put_one_back-requires
put_one_back-requires c = each_low (length c.args.heap.now) (length c.loop-newer.heap) c.args.beyond.now (length c.args.beyond.now - 1 - c.loop-newer.newer) (record { lane = record { 0 = 0 }; «record» = Acq (record { 0 = 0 }) 0 })
    (omega (arith, c.loop-newer-test.true)) c.loop-newer.invariant.size c.requires
  where
    each_low : (n m : ℕ) (beyond : List LaneRecord) (k : ℕ) (d : LaneRecord) → k < length beyond → m ≡ n → All (IsOfFields n) beyond → IsOfFields m (get_or beyond k d)
    each_low n m beyond k d lt is all = subst (λ (i : ℕ). IsOfFields i (get_or beyond k d)) (sym is) (All-get_or (IsOfFields n) beyond k d lt all)

pub loop-newer-preserved : goal.loop-newer-preserved
loop-newer-preserved c = record {
  size = omega (arith, c.put_one_back.ensures.size, c.loop-newer.invariant.size);
  back = λ f. back_next f c.args.beyond.now c.loop-newer.newer _ (slice_index c.args.heap.now f) c.loop-newer-test.true (c.put_one_back.ensures.back f) (c.loop-newer.invariant.back f);
}

pub returns-clause-kept : goal.returns-clause-kept
returns-clause-kept c = λ s log cut legal closed is f low at.
    all_back s log cut f c.args.beyond.now c.loop-newer.newer (slice_index c.args.heap.now f) legal closed is (omega (arith, c.loop-newer-test.false)) at _ (c.loop-newer.invariant.back f)
