use Rattle.std.proofs.Common.{◌≡◌, ◌-◌, ◌<◌, ℕ, length, slice_index}
use Rattle.undo_log.specs.StandsFor.{row_of}
use Rattle.store_round_making.proofs.rows.skips.Given as goal

-- the lanes so far have their counts
abbrev pub invariant-loop-lane : goal.invariant-loop-lane
invariant-loop-lane l = record {
  size : length l.skipped ≡ 32;
  before : (lane : ℕ) → lane < l.lane → slice_index l.skipped lane ≡ slice_index l.places lane - (row_of l.rows lane).logged;
}
