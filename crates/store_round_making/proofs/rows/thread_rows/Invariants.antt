use Rattle.std.proofs.Common.{◌≡◌, ◌+◌, ◌<◌, ◌≤◌, ℕ, length, slice_index}
use Rattle.undo_log.specs.StandsFor.{row_of}
use Rattle.store_round_making.proofs.rows.thread_rows.Given as goal

-- the lanes so far have their new rows
abbrev pub invariant-loop-lane : goal.invariant-loop-lane
invariant-loop-lane g l = record {
  size : length l.following ≡ length l.rows;
  before : (lane : ℕ) → lane < l.lane → row_of l.following lane
      ≡ record { start = slice_index l.places lane; settled = slice_index l.places lane; logged = (row_of l.rows lane).logged + length (g.F.NewRecords.fresh l.fresh lane); kept = slice_index l.next.counts lane };
  after : (lane : ℕ) → l.lane ≤ lane → row_of l.following lane ≡ row_of l.rows lane;
}
