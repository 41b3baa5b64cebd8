use Rattle.std.proofs.Common.{ℕ, ◌≡◌, ◌<◌, false, length, get_or}
use Rattle.store_round_image.specs.declared.cells.HomeValue.{HomeValue}
use Rattle.store_round_memory.specs.Surveys.{is_marked}
use Rattle.store_round_memory.proofs.survey.unmark.Given as goal

abbrev pub invariant-loop-change : goal.invariant-loop-change
invariant-loop-change l = record {
  size : length l.marks ≡ length l.initial.marks;
  unmarked : (k : ℕ) (d : HomeValue) → k < l.change-index → is_marked l.marks (get_or l.changed k d).field.0 ≡ false;
  others : (f : ℕ) → is_marked l.initial.marks f ≡ false → is_marked l.marks f ≡ false;
}
