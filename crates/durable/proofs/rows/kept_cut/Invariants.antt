use Rattle.std.proofs.Common.{◌≡◌, ◌<◌, ℕ, length, slice_index}
use Rattle.undo_log.specs.StandsFor.{row_of}
use Rattle.durable.proofs.rows.kept_cut.Given as goal

-- the rows' counts so far
abbrev pub invariant-loop-lane : goal.invariant-loop-lane
invariant-loop-lane l = (length l.counts ≡ 32) × ((k : ℕ) → k < l.lane → slice_index l.counts k ≡ (row_of l.rows k).kept)
