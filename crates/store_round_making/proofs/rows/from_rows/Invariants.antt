use Rattle.std.proofs.Common.{◌≡◌, ◌<◌, ◌≤◌, ℕ, max, length, slice_index}
use Rattle.undo_log.specs.StandsFor.{row_of}
use Rattle.store_round_making.proofs.rows.from_rows.Given as goal

-- the lanes so far have their rows
abbrev pub invariant-loop-lane : goal.invariant-loop-lane
invariant-loop-lane l = record {
  size : length l.from ≡ length l.rows;
  before : (lane : ℕ) → lane < l.lane → row_of l.from lane ≡ record (row_of l.rows lane) { logged = max (row_of l.rows lane).logged (slice_index l.places lane) };
  after : (lane : ℕ) → l.lane ≤ lane → row_of l.from lane ≡ row_of l.rows lane;
}
