use Rattle.std.proofs.Common.{ℕ, ◌≡◌, ◌<◌, ◌≤◌, length, slice_index}
use Rattle.undo_log.specs.StandsFor.{row_of}
use Rattle.recover.proofs.studying.kept_sections.Given as goal

abbrev pub invariant-loop-lane : goal.invariant-loop-lane
invariant-loop-lane l = record {
  all : length l.counts ≡ 32;
  before : (m : ℕ) → m < l.lane → slice_index l.counts m ≡ (row_of l.rows m).kept;
  rest : (m : ℕ) → l.lane ≤ m → slice_index l.counts m ≡ 0;
}
