use Rattle.std.proofs.Common.{ℕ, ◌≤◌, sum}
use Rattle.heap_model.specs.Cuts.{counts_of}
use Rattle.law_cuts.specs.Plain.{reading, IsClosedOver}
use Rattle.law_cuts.proofs.plain.greatest_cut.Given as goal

abbrev pub invariant-loop-step : goal.invariant-loop-step
invariant-loop-step l = record {
  below : (m : ℕ) → counts_of l.cut m ≤ counts_of l.fn.whole m;
  greatest : (other : ℕ → ℕ) → ((m : ℕ) → other m ≤ counts_of l.fn.whole m) → IsClosedOver reading l.steps other → (m : ℕ) → other m ≤ counts_of l.cut m;
}

abbrev pub decreases-loop-step : goal.decreases-loop-step
decreases-loop-step l = sum l.cut.counts
