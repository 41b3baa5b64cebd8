use Rattle.std.proofs.Common.{◌≡◌, ◌<◌, ◌≤◌, ℕ, length}
use Rattle.undo_log.specs.StandsFor.{row_of}
use Rattle.store_image.proofs.trimming.trimmed_rows.Given as goal

-- the lanes so far have their new rows
abbrev pub invariant-loop-lane : goal.invariant-loop-lane
invariant-loop-lane l = record {
  size : length l.next ≡ length l.rows;
  before : (lane : ℕ) → lane < l.lane → row_of l.next lane ≡ record (row_of l.rows lane) { start = (row_of l.rows lane).settled };
  after : (lane : ℕ) → l.lane ≤ lane → row_of l.next lane ≡ row_of l.rows lane;
}
