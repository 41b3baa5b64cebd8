use Rattle.std.proofs.Common.{ℕ, ◌≡◌, ◌+◌, ◌-◌, ◌∷◌, [], ◌++◌, List, length, replicate, ap, ◌∙◌, arith}
use Rattle.store_memory.proofs.Slots.{grown_more}
use Rattle.store_memory.proofs.ends.note.Goals as goal

pub loop-preserved : goal.loop-preserved
loop-preserved c =
    let ends : List ℕ = c.args.ends.now.items in
    let n : ℕ = c.loop.counter - length ends in
    let more : n + 1 ≡ c.loop.counter + 1 - length ends = omega (arith, c.loop.invariant.low) in
    record {
      items = c.push_reserved.ensures.items ∙ ap (λ (xs : List ℕ). xs ++ 0 ∷ []) c.loop.invariant.items ∙ grown_more ends n ∙ ap (λ (k : ℕ). ends ++ replicate k 0) more;
      len = c.push_reserved.ensures.len ∙ ap (λ (k : ℕ). k + 1) c.loop.invariant.len;
      low = omega (arith, c.loop.invariant.low);
      upto = omega (arith, c.loop.invariant.low, c.loop-test.true);
      capacity = c.push_reserved.ensures.capacity ∙ c.loop.invariant.capacity;
    }
