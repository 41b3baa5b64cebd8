use Rattle.std.proofs.Common.{ℕ, ◌≡◌, ◌≢◌, ◌<◌, length, get_or, slice_index}
use Rattle.std.specs.Prelude.{AllPairs, Contains}
use Rattle.store_round_image.specs.Turning.{fields_of}
use Rattle.store_round_image.specs.declared.cells.HomeValue.{HomeValue}
use Rattle.store_round_memory.proofs.keeping.write_all.Given as goal

abbrev pub invariant-loop-change : goal.invariant-loop-change
invariant-loop-change l = record {
  size : length l.heap ≡ length l.initial.heap;
  written : AllPairs (λ c d. c.field.0 ≢ d.field.0) l.changed → (k : ℕ) (d : HomeValue) → k < l.change-index → slice_index l.heap (get_or l.changed k d).field.0 ≡ (get_or l.changed k d).value;
  others : (f : ℕ) → (Contains (fields_of l.changed) f → ⊥) → slice_index l.heap f ≡ slice_index l.initial.heap f;
}
