use Rattle.std.proofs.Common.{◌≡◌, ◌<◌, ℕ, length, slice_index}
use Rattle.undo_log.specs.StandsFor.{row_of}
use Rattle.durable.proofs.rows.starts.Given as goal

-- the starts so far
abbrev pub invariant-loop-lane : goal.invariant-loop-lane
invariant-loop-lane l = (length l.places ≡ 32) × ((k : ℕ) → k < l.lane → slice_index l.places k ≡ (row_of l.rows k).start)
